use Rattle.xl_model.specs.declared.address.Kind.TheVariants as kind
use Rattle.xl_model.proofs.AllowedLemmas.{allowed_code}
use Rattle.xl_model.proofs.allowed.allowed_codes.Goals as goal

pub returns-in-Fetch : goal.returns-in-Fetch
returns-in-Fetch c = rw c.in-Fetch.is (allowed_code kind.Fetch)

pub returns-in-Load : goal.returns-in-Load
returns-in-Load c = rw c.in-Load.is (allowed_code kind.Load)

pub returns-in-Store : goal.returns-in-Store
returns-in-Store c = rw c.in-Store.is (allowed_code kind.Store)
