use Rattle.xl_lackey.proofs.Common.{◌+◌, ◌<◌, ◌^◌, ◌≡◌, ◌≤◌, decimal_value, drop, front, is_digit, length}
use Rattle.xl_lackey.proofs.digits.decimal.Given as goal

abbrev pub invariant-loop-at : goal.invariant-loop-at
invariant-loop-at l = record {
  few : l.at ≤ 7;
  small : l.value < 10 ^ l.at;
  count : l.at + length (front is_digit (drop l.at l.text)) ≡ length (front is_digit l.text);
  same : decimal_value l.value (front is_digit (drop l.at l.text)) ≡ decimal_value 0 (front is_digit l.text);
}
