-- The fault of a line, given its role and the line before it, and the faults of a text.
use Rattle.std.specs.Prelude.{unsigned_abs, ◌==◌, ℕ, suc, ◌^◌, ◌&&◌, ◌||◌, not, cond, Bool, true, false, is_some, nat_lt, List, [], length, codes, get_or, ℤ, pos, int_lt, Option, Some, None, Result, Ok, Err, option_map}
use Rattle.std.specs.Option.{option_or, unwrap_or}
use Rattle.std.specs.Str.{bytes_eq}
use Rattle.vg_num.specs.Number.{whole_of}
use Rattle.vg_num.specs.declared.fault.NumFault.{NumFault}
use Rattle.vg_num.specs.declared.fault.NumFault.TheVariants as numbers
use Rattle.elmore.specs.declared.pair.Pair.{Pair}
use Rattle.elmore.specs.declared.problem.Problem.{Problem}
use Rattle.vg_scan.specs.Faults.{IsClear, IsFirstFault}
use Rattle.vg_scan.specs.declared.fault.LineFault.{LineFault}
use Rattle.vg_scan.specs.declared.name.NetNames.{NetNames}
use Rattle.vg_cert.specs.declared.fault.CertKind.{CertKind}
use Rattle.vg_cert.specs.declared.fault.CertKind.TheVariants.{Form, Number, Node, Cell, Order}
use Rattle.vg_cert.specs.Lines.{Line, parts, lines, line_at, word, is_empty, begins_with, number_in, number_fault, is_no_count}
use Rattle.vg_cert.specs.Names.{text_of_node, node_named, cell_named}
use Rattle.vg_cert.specs.Roles.{Role, heading, net, slack, cells, at, node, even, odd, end, over, role_at, line_before}

-- the words have the shape of a line of this role
abbrev pub has_shape : Role → Line → Bool
has_shape heading line = begins_with (codes "vgcert") 2 line && bytes_eq (word line 1) (codes "1")
has_shape net line = begins_with (codes "net") 2 line
has_shape slack line = begins_with (codes "slack") 2 line
has_shape cells line = begins_with (codes "cells") 2 line
has_shape at line = begins_with (codes "at") 3 line
has_shape (node v) line = begins_with (codes "node") 4 line
has_shape even line = length line == 2
has_shape odd line = length line == 2
has_shape end line = begins_with (codes "end") 1 line
has_shape over line = false

-- a count is negative, or over 2^28
abbrev pub has_bad_count : Role → Line → Bool
has_bad_count cells line = is_no_count (whole_of (word line 1))
has_bad_count (node v) line = is_no_count (whole_of (word line 2)) || is_no_count (whole_of (word line 3))
has_bad_count _ line = false

-- the slack line writes that there is none
abbrev pub is_none : Line → Bool
is_none line = bytes_eq (word line 1) (codes "none")

-- a cell where there is no slack, given the slack line
abbrev pub is_needless : Line → Role → Bool
is_needless head at = is_none head
is_needless head _ = false

abbrev pub is_form_fault : Line → Role → Line → Bool
is_form_fault head role line = not (has_shape role line) || (has_bad_count role line || is_needless head role)

-- a load that was read is negative, or over 10^11
abbrev pub load_fault : Result ℤ NumFault → Option NumFault
load_fault (Ok z) =
    cond (int_lt z (pos 0)) (Some numbers.Negative) (cond (int_lt (pos (10 ^ 11)) z) (Some numbers.TooLarge) None)
load_fault (Err fault) = Some fault

abbrev pub pair_fault : Line → Option NumFault
pair_fault line = option_or (number_fault (word line 0)) (load_fault (whole_of (word line 1)))

-- the first number of a line that cannot be read
abbrev pub first_number_fault : Role → Line → Option NumFault
first_number_fault slack line = cond (is_none line) None (number_fault (word line 1))
first_number_fault cells line = number_fault (word line 1)
first_number_fault (node v) line = option_or (number_fault (word line 2)) (number_fault (word line 3))
first_number_fault even line = pair_fault line
first_number_fault odd line = pair_fault line
first_number_fault _ line = None

-- the name is not the net's, no node's, or not the one of the node whose section is due
abbrev pub is_node_fault : NetNames → Role → Line → Bool
is_node_fault names net line = not (bytes_eq (word line 1) names.net)
is_node_fault names at line = not (is_some (node_named names.nodes (word line 1)))
is_node_fault names (node v) line = not (bytes_eq (text_of_node names.nodes v) (word line 1))
is_node_fault names _ line = false

-- the cell is no repeater's
abbrev pub is_cell_fault : NetNames → Role → Line → Bool
is_cell_fault names at line = not (is_some (cell_named names.cells (word line 2)))
is_cell_fault names _ line = false

-- the node that an `at` line names, and the pair that a line of a list writes
abbrev pub node_in : NetNames → Line → ℕ
node_in names line = unwrap_or (node_named names.nodes (word line 1)) 0

abbrev pub pair_in : Line → Pair
pair_in line = record { q = number_in (word line 0); c = unsigned_abs (number_in (word line 1)) }

abbrev pub is_below : Pair → Pair → Bool
is_below x y = int_lt x.q y.q && nat_lt x.c y.c

-- the nodes of `at` lines rise, and so do both numbers of the lines of a list
abbrev pub rises : NetNames → Role → Line → Line → Bool
rises names at before line = nat_lt (node_in names before) (node_in names line)
rises names _ before line = is_below (pair_in before) (pair_in line)

abbrev pub is_order_fault : NetNames → Role → Option Line → Line → Bool
is_order_fault names role None line = false
is_order_fault names role (Some before) line = not (rises names role before line)

abbrev pub when : Bool → CertKind → Option CertKind
when fault kind = cond fault (Some kind) None

-- the first fault of a line, given the slack line, its role, and the line after which it goes on
abbrev pub fault_of : NetNames → Line → Role → Option Line → Line → Option CertKind
fault_of names head role before line =
    option_or (when (is_form_fault head role line) Form)
    (option_or (option_map Number (first_number_fault role line))
    (option_or (when (is_node_fault names role line) Node)
    (option_or (when (is_cell_fault names role line) Cell)
    (when (is_order_fault names role before line) Order))))

-- the fault that the line at a place has by itself
abbrev pub own_fault : Problem → NetNames → List Line → ℕ → Option CertKind
own_fault p names ls i =
    fault_of names (line_at ls 2) (role_at p ls i) (line_before p ls i (role_at p ls i)) (line_at ls i)

abbrev pub is_over_role : Role → Bool
is_over_role over = true
is_over_role _ = false

-- a newline ends what stands at a place: that is a line
abbrev pub is_whole : List ℕ → ℕ → Bool
is_whole text i = nat_lt (suc i) (length (parts text))

-- nothing stands at a place, where a line would begin: the text ends there
abbrev pub ends_at : List ℕ → ℕ → Bool
ends_at text i = (suc i == length (parts text)) && is_empty (get_or (parts text) i [])

-- the text ends after the line at a place, and another line is due
abbrev pub is_cut_short : Problem → List ℕ → ℕ → Bool
is_cut_short p text i = ends_at text (suc i) && not (is_over_role (role_at p (lines text) (suc i)))

-- the fault of a line: its own, or else that the line after it is missing
abbrev pub line_fault : Problem → NetNames → List ℕ → ℕ → Option CertKind
line_fault p names text i = option_or (own_fault p names (lines text) i) (when (is_cut_short p text i) Form)

-- what stands after the last newline is no line, and has to be nothing; where no line stands before it, the first one
-- is missing
abbrev pub rest_fault : List ℕ → ℕ → Option CertKind
rest_fault text i = when (not (ends_at text i) || (i == 0)) Form

-- the fault at a place of a text, from 0
unfoldable pub fault_at : Problem → NetNames → List ℕ → ℕ → Option CertKind
fault_at p names text i = cond (is_whole text i) (line_fault p names text i) (rest_fault text i)

abbrev pub IsFaultless : Problem → NetNames → List ℕ → Type 0
IsFaultless p names text = IsClear (fault_at p names text) (length (parts text))

abbrev pub IsFaultIn : Problem → NetNames → List ℕ → LineFault CertKind → Type 0
IsFaultIn p names text fault = IsFirstFault (fault_at p names text) (length (parts text)) 1 fault
