use Rattle.xl_lackey.proofs.Common.{◌<◌, ◌^◌, ◌≡◌, ◌≤◌, address_in, drop}
use Rattle.xl_lackey.proofs.AddressLemmas.{hex_at}
use Rattle.xl_lackey.proofs.digits.address.Given as goal

abbrev pub invariant-loop-at : goal.invariant-loop-at
invariant-loop-at l = record {
  few : l.at ≤ 16;
  small : l.value < 16 ^ l.at;
  same : hex_at l.value l.at (drop l.at l.text) ≡ address_in l.text;
}
