-- The rows of a constraints text, by kind and in order, and what they give for a name or a point.
use Rattle.std.specs.Prelude.{ℕ, ◌&&◌, ◌||◌, Bool, false, List, [], ◌∷◌, ℤ, pos, int_le, is_some, unwrap_or, Option, Some, None, Result, Ok}
use Rattle.std.specs.List.{filter_map, list_any}
use Rattle.std.specs.Option.{option_or}
use Rattle.vg_cons.specs.declared.fault.ConsKind.{ConsKind}
use Rattle.vg_cons.specs.declared.format.Format.{Format}
use Rattle.vg_cons.specs.Lines.{Line, heading_of}
use Rattle.vg_scan.specs.Nodes.{node_value, has_node}
use Rattle.vg_scan.specs.declared.name.NodeName.{NodeName}
use Rattle.vg_cons.specs.Names.{port_value}
use Rattle.vg_cons.specs.Statements.{Point, Box, Statement, default, required, arrival, want, drive, load, block, allow, block_box, statement_of}

-- what a text denotes: its version, and its rows
pub record Rows : Type 0 where
  pub format : Option Format
  pub default : Option ℤ
  pub required : List (NodeName × ℤ)
  pub arrival : List (NodeName × ℤ)
  pub want : List NodeName
  pub drive : List (List ℕ × (ℕ × ℤ))
  pub load : List (List ℕ × ℕ)
  pub block : List NodeName
  pub allow : List (NodeName × List (List ℕ))
  pub boxes : List Box

-- the row of each kind that a line may state
abbrev pub default_in : Result Statement ConsKind → Option ℤ
default_in (Ok (default t)) = Some t
default_in _ = None

abbrev pub required_in : Result Statement ConsKind → Option (NodeName × ℤ)
required_in (Ok (required row)) = Some row
required_in _ = None

abbrev pub arrival_in : Result Statement ConsKind → Option (NodeName × ℤ)
arrival_in (Ok (arrival row)) = Some row
arrival_in _ = None

abbrev pub want_in : Result Statement ConsKind → Option NodeName
want_in (Ok (want pin)) = Some pin
want_in _ = None

abbrev pub drive_in : Result Statement ConsKind → Option (List ℕ × (ℕ × ℤ))
drive_in (Ok (drive row)) = Some row
drive_in _ = None

abbrev pub load_in : Result Statement ConsKind → Option (List ℕ × ℕ)
load_in (Ok (load row)) = Some row
load_in _ = None

abbrev pub block_in : Result Statement ConsKind → Option NodeName
block_in (Ok (block node)) = Some node
block_in _ = None

abbrev pub allow_in : Result Statement ConsKind → Option (NodeName × List (List ℕ))
allow_in (Ok (allow row)) = Some row
allow_in _ = None

abbrev pub box_in : Result Statement ConsKind → Option Box
box_in (Ok (block_box box)) = Some box
box_in _ = None

-- the rows of one kind that some lines state, in order
abbrev pub stated : {A : Type 0} → (Result Statement ConsKind → Option A) → List Line → List A
stated kind lines = filter_map (λ line. kind (statement_of line)) lines

abbrev pub first_of : {A : Type 0} → List A → Option A
first_of [] = None
first_of (x ∷ xs) = Some x

-- the version that some lines give, and their rows
unfoldable pub rows_of : List Line → Rows
rows_of lines = record {
  format = first_of (filter_map heading_of lines);
  default = first_of (stated default_in lines);
  required = stated required_in lines;
  arrival = stated arrival_in lines;
  want = stated want_in lines;
  drive = stated drive_in lines;
  load = stated load_in lines;
  block = stated block_in lines;
  allow = stated allow_in lines;
  boxes = stated box_in lines;
}

-- a row of the same kind and name is there; a box may be given again
abbrev pub is_again : Rows → Statement → Bool
is_again rows (default _) = is_some rows.default
is_again rows (required row) = is_some (node_value rows.required row.0)
is_again rows (arrival row) = is_some (node_value rows.arrival row.0)
is_again rows (want pin) = has_node rows.want pin
is_again rows (drive row) = is_some (port_value rows.drive row.0)
is_again rows (load row) = is_some (port_value rows.load row.0)
is_again rows (block node) = has_node rows.block node
is_again rows (allow row) = is_some (node_value rows.allow row.0)
is_again rows (block_box _) = false

-- a pin's own required time, else the default
abbrev pub required_of : Rows → NodeName → Option ℤ
required_of rows pin = option_or (node_value rows.required pin) rows.default

abbrev pub arrival_of : Rows → NodeName → ℤ
arrival_of rows pin = unwrap_or (node_value rows.arrival pin) (pos 0)

abbrev pub wants_inverted_of : Rows → NodeName → Bool
wants_inverted_of rows pin = has_node rows.want pin

-- resistance and intrinsic delay
abbrev pub drive_of : Rows → List ℕ → ℕ × ℤ
drive_of rows port = unwrap_or (port_value rows.drive port) (0, pos 0)

abbrev pub load_of : Rows → List ℕ → ℕ
load_of rows port = unwrap_or (port_value rows.load port) 0

abbrev pub is_blocked_of : Rows → NodeName → Bool
is_blocked_of rows node = has_node rows.block node

-- the cells that a node allows
abbrev pub allowed_of : Rows → NodeName → Option (List (List ℕ))
allowed_of rows node = node_value rows.allow node

-- between two numbers, or one of them; either may be the greater
abbrev pub is_between : ℤ → ℤ → ℤ → Bool
is_between a b x = (int_le a x && int_le x b) || (int_le b x && int_le x a)

-- a point in a box or on its border
abbrev pub holds : Point → Box → Bool
holds point box = is_between box.0.0 box.1.0 point.0 && is_between box.0.1 box.1.1 point.1

abbrev pub in_box_of : Rows → Point → Bool
in_box_of rows point = list_any (holds point) rows.boxes
