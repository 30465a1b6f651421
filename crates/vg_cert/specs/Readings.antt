-- What the functions between say of the lines that they take; what the crate promises does not rest on it.
use Rattle.std.specs.Prelude.{◌≡◌, ℕ, ℤ, Bool, false, suc, zero, ◌+◌, ◌<◌, ◌≤◌, ◌^◌, ◌||◌, ◌⊎◌, cond, not, nat_lt, List, [], ◌∷◌, length, drop, take, map, slice_index_or, true, Option, Some, None, option_map, IfSome, Result, Ok, Err}
use Rattle.std.specs.Option.{option_or}
use Rattle.std.specs.List.{All, AllPairs}
use Rattle.elmore.specs.declared.pair.Pair.{Pair}
use Rattle.elmore.specs.declared.problem.Problem.{Problem}
use Rattle.vg_num.specs.declared.fault.NumFault.{NumFault}
use Rattle.vg_scan.specs.Faults.{IsClear}
use Rattle.vg_scan.specs.declared.fault.LineFault.{LineFault}
use Rattle.vg_scan.specs.declared.name.NetNames.{NetNames}
use Rattle.vg_scan.specs.declared.name.NodeName.{NodeName}
use Rattle.vg_cert.specs.declared.fault.CertKind.{CertKind}
use Rattle.vg_cert.specs.declared.fault.CertKind.TheVariants.{Form, Number, Node, Cell, Order, Memory}
use Rattle.vg_cert.specs.declared.place.Place.{Place}
use Rattle.vg_cert.specs.declared.source.Source.{Source}
use Rattle.vg_cert.specs.declared.certificate.NodeLists.{NodeLists}
use Rattle.vg_cert.specs.declared.head.Head.{Head}
use Rattle.vg_cert.specs.Denoted.{slack_in, placed_in, cell_of, lists_in, section_lists, both}
use Rattle.vg_cert.specs.Fits.{IsTime, IsEntry, IsList}
use Rattle.vg_cert.specs.Lines.{Line, parts, lines, line_at, is_empty, is_no_count, fault_in, count_in}
use Rattle.vg_cert.specs.Names.{text_of_node}
use Rattle.std.specs.Str.{bytes_eq}
use Rattle.vg_cert.specs.Roles.{Role, even, odd, at, end, roles, sections, role_at, line_before, cell_count, section_length}
use Rattle.vg_cert.specs.Faults.{is_none, own_fault, IsFaultIn, has_shape, pair_fault, pair_in, is_below, is_node_fault, is_cell_fault, node_in, when}

-- a text, with the problem and the names that it is read for
pub record Reading : Type 0 where
  pub problem : Problem
  pub names : NetNames
  pub text : List ℕ

abbrev pub reading : Source → Reading
reading source = record { problem = source.problem.now; names = source.names.now; text = source.bytes.now }

abbrev pub lines_of : Reading → List Line
lines_of r = lines r.text

abbrev pub line_of : Reading → ℕ → Line
line_of r n = line_at (lines r.text) n

abbrev pub role_of : Reading → ℕ → Role
role_of r n = role_at r.problem (lines r.text) n

-- the lines that are left begin at the place
pub record IsPlace (text : List ℕ) (place : Place) : Type 0 where
  pub within : place.at ≤ length text
  pub counted : place.count ≤ place.at
  pub left : drop place.count (parts text) ≡ parts (drop place.at text)

-- and the lines before it have no fault of their own
pub record IsUpTo (r : Reading) (place : Place) : Type 0 where
  pub here : IsPlace r.text place
  pub clear : IsClear (own_fault r.problem r.names (lines_of r)) place.count

-- a word before some words, if there are any
abbrev pub put_before : List ℕ → Line → Line
put_before first [] = []
put_before first (next ∷ rest) = first ∷ next ∷ rest

-- a line was taken
pub record IsTaken (text line : List ℕ) (old new : Place) : Type 0 where
  pub here : IsPlace text new
  pub next : new.count ≡ suc old.count
  pub parted : parts (drop old.at text) ≡ line ∷ parts (drop new.at text)

-- the line at which it is told that the line that is due does not stand here, given what is left of the text and how
-- many lines stand before: where nothing is left it is the line before, if there is one
abbrev pub line_told : List ℕ → ℕ → ℕ
line_told left zero = 1
line_told left (suc n) = cond (is_empty left) (suc n) (suc (suc n))

-- the line that is due does not stand here
pub record IsNotDue (left : List ℕ) (count : ℕ) (fault : LineFault CertKind) : Type 0 where
  pub kind : fault.kind ≡ Form
  pub line : fault.line ≡ line_told left count

-- there is no line: no newline is left
pub record IsMissing (text : List ℕ) (old : Place) (fault : LineFault CertKind) : Type 0 where
  pub rest : parts (drop old.at text) ≡ drop old.at text ∷ []
  pub told : IsNotDue (drop old.at text) old.count fault

-- what a line writes, or its fault, or out of memory
abbrev pub Judges : {A : Type 0} → Result A CertKind → Option CertKind → (A → Type 0) → Type 0
Judges (Ok x) fault Is = (fault ≡ None) × Is x
Judges (Err kind) fault Is = (kind ≡ Memory) ⊎ (fault ≡ Some kind)

-- the text's fault, or out of memory
abbrev pub IsFaultOrMemory : Reading → LineFault CertKind → Type 0
IsFaultOrMemory r fault = (fault.kind ≡ Memory) ⊎ IsFaultIn r.problem r.names r.text fault

-- so many lines were taken without a fault, and give this; or the text's fault
abbrev pub Reads : {A : Type 0} → Result A (LineFault CertKind) → Reading → Place → Place → ℕ → (A → Type 0) → Type 0
Reads (Ok x) r old new n Is = IsUpTo r new × (new.count ≡ old.count + n) × Is x
Reads (Err fault) r old new n Is = IsFaultOrMemory r fault

-- what a count's word is
abbrev pub count_fault : Result ℤ NumFault → Option CertKind
count_fault read = option_or (when (is_no_count read) Form) (option_map Number (fault_in read))

-- and what the words of two counts are
abbrev pub counts_fault : Result ℤ NumFault → Result ℤ NumFault → Option CertKind
counts_fault one other =
    option_or (when (is_no_count one || is_no_count other) Form)
    (option_map Number (option_or (fault_in one) (fault_in other)))

pub record AreCounts (one other : List ℕ) (found : ℕ × ℕ) : Type 0 where
  pub evens : found.0 ≡ count_in one
  pub odds : found.1 ≡ count_in other
  pub few_even : found.0 ≤ 2 ^ 28
  pub few_odd : found.1 ≤ 2 ^ 28

-- no two nodes have the same name
abbrev pub NodesDiffer : NetNames → Type 0
NodesDiffer names = AllPairs (λ (a b : NodeName). a ≡ b → ⊥) names.nodes

-- the fault of a pair's line, given the pair before it in its list
abbrev pub is_unordered : Option Pair → Pair → Bool
is_unordered None pair = false
is_unordered (Some before) pair = not (is_below before pair)

unfoldable pub fault_after_pair : Option Pair → Line → Option CertKind
fault_after_pair last line =
    option_or (when (not (has_shape even line)) Form)
    (option_or (option_map Number (pair_fault line))
    (when (is_unordered last (pair_in line)) Order))

-- the fault of an `at` line, where the nodes before this one are behind
unfoldable pub fault_from_node : NetNames → ℕ → Line → Option CertKind
fault_from_node names next line =
    option_or (when (not (has_shape at line)) Form)
    (option_or (when (is_node_fault names at line) Node)
    (option_or (when (is_cell_fault names at line) Cell)
    (when (nat_lt (node_in names line) next) Order)))

-- the node after the one of the line before
abbrev pub node_after : NetNames → Option Line → ℕ
node_after names None = 0
node_after names (Some before) = suc (node_in names before)

-- so many `at` lines begin here
pub record AreCellsDue (r : Reading) (start count : ℕ) : Type 0 where
  pub due : (k : ℕ) → k < count → role_of r (start + k) ≡ at
  pub first : line_before r.problem (lines_of r) start at ≡ None
  pub slack : 0 < count → is_none (line_of r 2) ≡ false

-- what an `at` line writes, where the nodes before this one are behind
pub record IsCell (names : NetNames) (next : ℕ) (line : Line) (found : ℕ × ℕ) : Type 0 where
  pub names_them : found ≡ placed_in names line
  pub behind : next ≤ found.0
  pub node : found.0 < length names.nodes
  pub cell : found.1 < length names.cells

-- the cells that so many `at` lines place
pub record ArePlacedBy (r : Reading) (start count : ℕ) (cells : List (Option ℕ)) : Type 0 where
  pub one_each : length cells ≡ length r.names.nodes
  pub placed : (v : ℕ) → slice_index_or cells v None ≡ cell_of r.names (take count (drop start (lines_of r))) v
  pub named : (v b : ℕ) → slice_index_or cells v None ≡ Some b → b < length r.names.cells

-- the head of a certificate
pub record IsHead (r : Reading) (head : Head) : Type 0 where
  pub slack : head.slack ≡ slack_in (line_of r 2)
  pub time : IfSome head.slack IsTime
  pub cells : head.cells ≡ cell_count (lines_of r)

-- a pair is due, after the last one of its list
pub record IsPairDue (r : Reading) (n : ℕ) (last : Option Pair) (role : Role) : Type 0 where
  pub due : role_of r n ≡ role
  pub listed : (role ≡ even) ⊎ (role ≡ odd)
  pub after : option_map pair_in (line_before r.problem (lines_of r) n role) ≡ last

pub record IsPair (last : Option Pair) (line : Line) (pair : Pair) : Type 0 where
  pub wrote : pair ≡ pair_in line
  pub entry : IsEntry pair
  pub above : is_unordered last pair ≡ false

-- the pair of the line before, in a list that begins at a line
abbrev pub last_pair : Reading → ℕ → ℕ → Option Pair
last_pair r start zero = None
last_pair r start (suc k) = Some (pair_in (line_of r (start + k)))

-- so many lines of one list begin here
pub record IsListDue (r : Reading) (start count : ℕ) (role : Role) : Type 0 where
  pub due : (k : ℕ) → k < count → role_of r (start + k) ≡ role
  pub first : line_before r.problem (lines_of r) start role ≡ None
  pub listed : (role ≡ even) ⊎ (role ≡ odd)

-- the pairs that so many lines write
abbrev pub pairs_from : Reading → ℕ → ℕ → List Pair
pairs_from r start count = map pair_in (take count (drop start (lines_of r)))

abbrev pub roles_left : Reading → ℕ → List Role
roles_left r n = drop n (roles r.problem (lines_of r))

abbrev pub lines_left : Reading → ℕ → List Line
lines_left r n = drop n (lines_of r)

-- the sections of the nodes from v on begin here
abbrev pub AreSectionsDue : Reading → ℕ → ℕ → List Bool → Type 0
AreSectionsDue r n v live = roles_left r n ≡ sections v live (lines_left r n)

-- how many lines the section of a node takes
abbrev pub section_size : Reading → ℕ → Bool → ℕ
section_size r n live = cond live (section_length (line_at (lines_left r n) 0)) 0

-- the lists of a node, of the lines from a place on
pub record AreListsOf (r : Reading) (n : ℕ) (live : Bool) (lists : NodeLists) : Type 0 where
  pub wrote : both lists ≡ cond live (section_lists (lines_left r n)) ([], [])
  pub evens : IsList lists.even.items
  pub odds : IsList lists.odd.items

abbrev pub AreBothLists : NodeLists → Type 0
AreBothLists lists = IsList lists.even.items × IsList lists.odd.items

-- the lists of all nodes, and then `end` is due
pub record AreLists (r : Reading) (n m : ℕ) (lists : List NodeLists) : Type 0 where
  pub wrote : map both lists ≡ lists_in r.problem.live (lines_left r n)
  pub each : All AreBothLists lists
  pub ended : roles_left r m ≡ end ∷ []

-- the first node from one on that a word names, if there is one
abbrev pub is_named : List ℕ → List NodeName → ℕ → Bool
is_named word nodes v = bytes_eq (text_of_node nodes v) word

abbrev pub IsFound : List NodeName → ℕ → List ℕ → Option ℕ → Type 0
IsFound nodes from word None = (v : ℕ) → from ≤ v → v < length nodes → is_named word nodes v ≡ false
IsFound nodes from word (Some v) = (v < length nodes) × (from ≤ v) × (is_named word nodes v ≡ true)
    × ((u : ℕ) → from ≤ u → u < v → is_named word nodes u ≡ false)
