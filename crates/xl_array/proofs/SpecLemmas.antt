-- An array keeps its spec.
use Rattle.xl_array.proofs.Common.{◌∙◌, ◌≡◌, ap, IfNone, IfSome, leaf_with, None, Option, Order, Some, TlbArray, touched-spec, word_touched, ℕ}

pub spec_word : (space page : ℕ) (order : Order) (o : Option ℕ) (a b : TlbArray) → IfSome o (λ w. b ≡ word_touched space page order w a) → IfNone o (b ≡ a) → b.spec ≡ a.spec
spec_word space page order None a b h n = ap (λ (z : TlbArray). z.spec) n
spec_word space page order (Some w) a b h n = ap (λ (z : TlbArray). z.spec) h ∙ touched-spec space page (leaf_with space page order w) a
