use Rattle.std.proofs.Common.{◌≡◌, ◌-◌, ◌++◌, ◌≤◌, length, take, drop, replicate}
use Rattle.lib_text.proofs.join.blank_part.Given as goal

abbrev pub invariant-place : goal.invariant-place
invariant-place l = record {
  front : take l.place l.text ≡ take l.at l.initial.text ++ replicate (l.place - l.at) 32;
  rest : drop l.to l.text ≡ drop l.to l.initial.text;
  long : length l.text ≡ length l.initial.text;
  low : l.at ≤ l.place;
}
