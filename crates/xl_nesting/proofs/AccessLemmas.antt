-- What an access leaves.
use Rattle.xl_nesting.proofs.Common.{◌≡◌, refl, ℕ}
use Rattle.xl_model.specs.declared.address.Kind.{Kind}
use Rattle.xl_nested_model.specs.Nested.{after_nest_event, nest_accessed, nest_rule, nest_served, NestState}
use Rattle.xl_nested_model.specs.declared.nest.NestEvent.TheVariants as event

-- no rule refuses an access
pub after_access : (va : ℕ) (kind : Kind) (s : NestState) → nest_accessed va kind s ≡ after_nest_event (event.Access va kind) s
unfolding after_nest_event nest_rule nest_served
after_access va kind s = refl
