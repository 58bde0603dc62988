use Rattle.xl_model.specs.declared.address.Kind.TheVariants as kind
use Rattle.xl_pte.proofs.AllowedLemmas.{low_bit}
use Rattle.xl_pte.proofs.word.allowed_bits.Goals as goal

pub returns-in-Fetch : goal.returns-in-Fetch
returns-in-Fetch c = rw c.in-Fetch.is (low_bit kind.Fetch)

pub returns-in-Load : goal.returns-in-Load
returns-in-Load c = rw c.in-Load.is (low_bit kind.Load)

pub returns-in-Store : goal.returns-in-Store
returns-in-Store c = rw c.in-Store.is (low_bit kind.Store)
