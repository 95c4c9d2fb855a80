-- The lines of the first cuts are put, each of at most 42 bytes.
use Rattle.std.proofs.Common.{◌≡◌, ◌+◌, ◌*◌, ◌≤◌, ◌++◌, take}
use Rattle.arrayvec.specs.ArrayVec.{array_vec_len}
use Rattle.laws.specs.Last.{last_or}
use Rattle.cutlist_program.specs.Text.{lines}
use Rattle.cutlist_program.proofs.put_lines.Given as goal

abbrev pub invariant-loop-cut : goal.invariant-loop-cut
invariant-loop-cut g l =
    record {
      put : l.text.items ≡ l.initial.text.items ++ lines l.last (take l.cut-index l.cuts);
      reached : l.before ≡ last_or l.last (take l.cut-index l.cuts);
      room : array_vec_len l.text ≤ array_vec_len l.initial.text + 42 * l.cut-index;
    }
