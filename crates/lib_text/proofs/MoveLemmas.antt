-- The machine goes on as the grammar does, place by place.
use Rattle.std.proofs.Common.{◌≡◌, ℕ, zero, suc, ltb, Bool, true, false, [], ◌∷◌, ◌++◌, None, cond, refl}
use Rattle.grammar_laws.specs.Ways.{after_any, followed_by, can_stop}
use Rattle.grammar_laws.specs.Machines.{ways_of, has_way, IsMachine}
use Rattle.lib_text.specs.Grammar.{rules}
use Rattle.lib_text.specs.Grammar.Name.{in_library, in_cell, inside}
use Rattle.lib_text.specs.Moves.{ends, ways_at, ways, in_body, state, after_name, after_open, after_close, move, is_done_at, is_done, next}
use Rattle.lib_text.specs.declared.kind.Kind.{Kind}
use Rattle.lib_text.specs.declared.kind.Kind.TheVariants.{Library, Begin}
use Rattle.lib_text.specs.declared.state.Head.{Head}
use Rattle.lib_text.specs.declared.state.Head.TheVariants.{Library as OfLibrary, Cell as OfCell, Pin as OfPin, Other as OfOther}
use Rattle.lib_text.specs.declared.state.At.{At}
use Rattle.lib_text.specs.declared.state.At.TheVariants.{Start, Body, Named, Value as AtValue, Opened, Listed, Passed, Closed}

body_moves : (k : Kind) (d : ℕ) (cell : Bool) → ways_of ways (in_body k d cell) ≡ after_any rules (ends d cell ∷ []) k
body_moves k zero cell = refl
body_moves Library (suc zero) cell = refl
body_moves k (suc zero) cell = refl
body_moves Library (suc (suc zero)) true = refl
body_moves k (suc (suc zero)) true = refl
body_moves Library (suc (suc zero)) false = refl
body_moves k (suc (suc zero)) false = refl
body_moves Library (suc (suc (suc d))) cell = refl
body_moves k (suc (suc (suc d))) cell = refl

name_moves : (head : Head) (k : Kind) (d : ℕ) (cell : Bool) → ways_of ways (after_name head k d cell) ≡ after_any rules (ways_at (Named head) d cell) k
name_moves OfLibrary Library d cell = refl
name_moves OfLibrary _ d cell = refl
name_moves OfCell Library d cell = refl
name_moves OfCell _ d cell = refl
name_moves OfPin Library d cell = refl
name_moves OfPin _ d cell = refl
name_moves OfOther Library d cell = refl
name_moves OfOther _ d cell = refl

open_moves : (head : Head) (k : Kind) (d : ℕ) (cell : Bool) → ways_of ways (after_open head k d cell) ≡ after_any rules (ways_at (Opened head) d cell) k
open_moves OfLibrary Library d cell = refl
open_moves OfLibrary _ d cell = refl
open_moves OfCell Library d cell = refl
open_moves OfCell _ d cell = refl
open_moves OfPin Library d cell = refl
open_moves OfPin _ d cell = refl
open_moves OfOther Library d cell = refl
open_moves OfOther _ d cell = refl

list_moves : (head : Head) (k : Kind) (d : ℕ) (cell : Bool) → ways_of ways (move (Listed head) k d cell) ≡ after_any rules (ways_at (Listed head) d cell) k
list_moves OfLibrary Library d cell = refl
list_moves OfLibrary _ d cell = refl
list_moves OfCell Library d cell = refl
list_moves OfCell _ d cell = refl
list_moves OfPin Library d cell = refl
list_moves OfPin _ d cell = refl
list_moves OfOther Library d cell = refl
list_moves OfOther _ d cell = refl

-- where a group may begin, its statements come
deep : (b : Bool) (d : ℕ) (cell : Bool) → ways_of ways (cond b (state Body d cell) None) ≡ followed_by (ends d cell) (cond b ([] ∷ []) []) ++ [] ++ []
deep true d cell = refl
deep false d cell = refl

close_moves : (head : Head) (k : Kind) (d : ℕ) (cell : Bool) → ways_of ways (after_close head k d cell) ≡ after_any rules (ways_at (Closed head) d cell) k
close_moves OfLibrary Library d cell = refl
close_moves OfLibrary _ d cell = refl
close_moves OfCell Library d cell = refl
close_moves OfCell _ d cell = refl
close_moves OfPin Library d cell = refl
close_moves OfPin _ d cell = refl
close_moves OfOther Library zero cell = refl
close_moves OfOther k zero cell = refl
close_moves OfOther Library (suc zero) cell = refl
close_moves OfOther k (suc zero) cell = refl
close_moves OfOther Library (suc (suc zero)) true = refl
close_moves OfOther k (suc (suc zero)) true = refl
close_moves OfOther Library (suc (suc zero)) false = refl
close_moves OfOther k (suc (suc zero)) false = refl
close_moves OfOther Begin (suc (suc (suc d))) cell = deep (ltb (suc (suc (suc d))) 64) (suc (suc (suc (suc d)))) cell
close_moves OfOther k (suc (suc (suc d))) cell = refl

moves : (at : At) (k : Kind) (d : ℕ) (cell : Bool) → ways_of ways (move at k d cell) ≡ after_any rules (ways_at at d cell) k
moves Start Library d cell = refl
moves Start _ d cell = refl
moves Body k d cell = body_moves k d cell
moves (Named head) k d cell = name_moves head k d cell
moves AtValue Library d cell = refl
moves AtValue _ d cell = refl
moves (Opened head) k d cell = open_moves head k d cell
moves (Listed head) k d cell = list_moves head k d cell
moves Passed Library d cell = refl
moves Passed _ d cell = refl
moves (Closed head) k d cell = close_moves head k d cell

stops : (at : At) (d : ℕ) (cell : Bool) → is_done_at at d ≡ can_stop (ways_at at d cell)
stops Body zero cell = refl
stops (Closed OfLibrary) d cell = refl
stops (Closed OfCell) d cell = refl
stops (Closed OfPin) d cell = refl
stops (Closed OfOther) zero cell = refl
stops (Named OfLibrary) d cell = refl
stops (Opened OfLibrary) d cell = refl
stops (Listed OfLibrary) d cell = refl
stops _ d cell = refl

some_way : (at : At) (d : ℕ) (cell : Bool) → has_way (ways_at at d cell) ≡ true
some_way Start d cell = refl
some_way (Named OfLibrary) d cell = refl
some_way (Opened OfLibrary) d cell = refl
some_way (Listed OfLibrary) d cell = refl
some_way (Closed OfLibrary) d cell = refl
some_way _ d cell = refl

-- the machine reads kinds of tokens as the grammar does
pub machine : IsMachine rules ways next is_done
machine = record {
  proper = record {
    solid = elim [ in_library ↦ refl | in_cell ↦ refl | inside d ↦ refl ];
    headed = elim [ in_library ↦ refl | in_cell ↦ refl | inside d ↦ refl ];
  };
  moves = λ s k. moves s.at k s.depth s.in_cell;
  stops = λ s. stops s.at s.depth s.in_cell;
  some_way = λ s. some_way s.at s.depth s.in_cell;
}
