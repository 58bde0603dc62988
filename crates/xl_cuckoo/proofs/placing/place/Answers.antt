use Rattle.xl_cuckoo.proofs.Common.{place, refl}
use Rattle.xl_cuckoo.proofs.placing.place.Goals as goal

pub attempts-init : goal.attempts-init
unfolding place
attempts-init c = record { rest = refl; kept = refl }
