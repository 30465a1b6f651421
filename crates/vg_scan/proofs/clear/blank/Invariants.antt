use Rattle.std.proofs.Common.{◌≡◌, ◌++◌, ◌≤◌, length, map, take, drop}
use Rattle.vg_scan.specs.Comments.{blanked}
use Rattle.vg_scan.specs.Lines.{part}
use Rattle.vg_scan.proofs.clear.blank.Given as goal

abbrev pub invariant-place : goal.invariant-place
invariant-place l = record {
  front : take l.place l.text ≡ take l.fn.span.from l.initial.text ++ map blanked (part l.initial.text l.fn.span.from l.place);
  rest : drop l.place l.text ≡ drop l.place l.initial.text;
  long : length l.text ≡ length l.initial.text;
  low : l.fn.span.from ≤ l.place;
}
