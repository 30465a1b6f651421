-- An arena that one search after another leaves as it was.
use Rattle.std.proofs.Common.{ℕ, List, ◌∙◌}
use Rattle.sol_arena.specs.Slots.{made_in, IsSolution}
use Rattle.sol_arena.specs.Reach.{IsRestored}
use Rattle.sol_arena.specs.declared.slot.Slot.{Slot}

pub restored_twice : (old mid new : List Slot) → IsRestored old mid → IsRestored mid new → IsRestored old new
restored_twice old mid new one other =
    let still : (s : ℕ) → IsSolution (made_in old) s → IsSolution (made_in mid) s = λ s is. one.live s ∙ is in
    record {
      live = λ s. other.live s ∙ one.live s;
      made = λ s is. other.made s (still s is) ∙ one.made s is;
      cells = λ s is. other.cells s (still s is) ∙ one.cells s is;
      uses = λ s some. other.uses s some ∙ one.uses s some;
      count = other.count ∙ one.count;
    }
