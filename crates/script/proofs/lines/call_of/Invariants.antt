use Rattle.std.proofs.Common.{◌≡◌, ◌≤◌, length, drop}
use Rattle.script.specs.Fields.{fields_of}
use Rattle.script.specs.FieldsLaws.{Read}
use Rattle.script.proofs.lines.call_of.Given as goal

abbrev pub invariant-loop-field : goal.invariant-loop-field
invariant-loop-field l = record {
  count : l.count ≡ length l.yielded;
  few : l.count ≤ 24;
  room : length l.numbers ≡ 24;
  read : Read (drop 1 (fields_of l.line)) l.numbers l.count;
}
