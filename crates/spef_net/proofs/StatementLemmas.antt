-- What holds of the nodes and the notes of all lines, where it holds of what their words name.
use Rattle.std.proofs.Common.{◌≡◌, ℕ, ◌||◌, Bool, true, false, cond, List, [], ◌∷◌, refl, subst, get_or, Option, Some, None, Result, Ok, Err}
use Rattle.std.proofs.lemmas.Option.{same_Some}
use Rattle.std.specs.Prelude.{codes}
use Rattle.std.specs.List.{All}
use Rattle.std.specs.Str.{bytes_eq}
use Rattle.vg_num.specs.declared.fault.NumFault.{NumFault}
use Rattle.vg_scan.specs.Lines.{words, Line}
use Rattle.vg_scan.specs.declared.name.NodeName.{NodeName}
use Rattle.spef_file.specs.Files.{File}
use Rattle.spef_net.specs.declared.fault.NetKind.{NetKind}
use Rattle.spef_net.specs.declared.fault.NetKind.TheVariants.{Conn, Cap, Res}
use Rattle.spef_net.specs.declared.net.ConnKind.{ConnKind}
use Rattle.spef_net.specs.declared.net.ConnKind.TheVariants.{Pin, Port}
use Rattle.spef_net.specs.declared.net.Direction.{Direction}
use Rattle.spef_net.specs.declared.part.Part.{Part}
use Rattle.spef_net.specs.declared.part.Part.TheVariants.{Nowhere, Conns, Caps, Ress, Inducs}
use Rattle.spef_nodes.specs.Names.{node_in}
use Rattle.spef_net.specs.Lines.{head_of, note_after}
use Rattle.spef_net.specs.Rows.{conn_in, conns_of}
use Rattle.spef_net.specs.Statements.{Opens, Nothing, Connects, Star, Ground, Coupling, Resistor}
use Rattle.spef_net.specs.Statements.{Stated, direction_in, is_at, both, ground, coupling, resistor, cap_line, res_line, conn_line, connection, connected, star, starred, statement_in, statement_or_opens, statement_of_words, statement_of, part_after, statements_from, statements}
use Rattle.spef_net.proofs.SizeLemmas.{all_nil, all_cons, all_head, all_tail, all_filter_map}

-- the tag of a connection, and of a `*N` line
abbrev pub is_conn_tag : List ℕ → Bool
is_conn_tag tag = bytes_eq tag (codes "*I") || bytes_eq tag (codes "*P")

or_first : (a b : Bool) → a ≡ true → (a || b) ≡ true
or_first true b e = refl
or_first false b e = absurd (cc)

or_second : (a b : Bool) → b ≡ true → (a || b) ≡ true
or_second true b e = refl
or_second false b e = e

module _ (N : NodeName → Type 0) (M : List ℕ → Type 0) (file : File) where
  -- the nodes and the note of a line are such, and a connection is at a node of its kind
  abbrev pub IsFine : Stated → Type 0
  IsFine (Err kind) = Unit {0}
  IsFine (Ok (Opens part)) = Unit {0}
  IsFine (Ok Nothing) = Unit {0}
  IsFine (Ok (Connects kind way node note)) = (is_at kind node ≡ true) × N node × M note
  IsFine (Ok (Star node note)) = N node × M note
  IsFine (Ok (Ground node value)) = N node
  IsFine (Ok (Coupling a b value)) = N a × N b
  IsFine (Ok (Resistor a b value)) = N a × N b

  pub record Fine (line : Stated) : Type 0 where
    pub fine : IsFine line

  -- a word names such a node, if it names one
  pub record Names (word : List ℕ) : Type 0 where
    pub name : (node : NodeName) → node_in file word ≡ Some node → N node

  -- what stands after the first words of a line of connections is such a note
  pub record HasNote (line : List ℕ) (ws : Line) : Type 0 where
    pub conn : (tag node direction : List ℕ) (rest : Line) (name : NodeName) (way : Direction) → ws ≡ tag ∷ node ∷ direction ∷ rest → is_conn_tag tag ≡ true → node_in file node ≡ Some name → direction_in direction ≡ Some way → M (note_after 3 line)
    pub star : (tag node : List ℕ) (rest : Line) (name : NodeName) → ws ≡ tag ∷ node ∷ rest → bytes_eq tag (codes "*N") ≡ true → node_in file node ≡ Some name → M (note_after 2 line)

  pub record IsLine (line : List ℕ) (ws : Line) : Type 0 where
    pub names : All Names ws
    pub notes : HasNote line ws

  nothing : (kind : NetKind) → Fine (Err kind)
  nothing kind = record { fine = tt }

  fine_if : (t : Bool) (a b : Stated) → (t ≡ true → Fine a) → (t ≡ false → Fine b) → Fine (cond t a b)
  fine_if true a b f g = f refl
  fine_if false a b f g = g refl

  connected_fine : (kind : ConnKind) (note : List ℕ) (o : Option NodeName) (d : Option Direction) → ((node : NodeName) → o ≡ Some node → N node)
      → ((node : NodeName) (way : Direction) → o ≡ Some node → d ≡ Some way → M note) → Fine (connected kind note o d)
  connected_fine kind note None d n m = nothing Conn
  connected_fine kind note (Some node) None n m = nothing Conn
  connected_fine kind note (Some node) (Some way) n m =
      fine_if (is_at kind node) (Ok (Connects kind way node note)) (Err Conn) (λ e. record { fine = (e, n node refl, m node way refl refl) }) (λ e. nothing Conn)

  connection_fine : (kind : ConnKind) (line : List ℕ) (tag : List ℕ) (rest : Line) → is_conn_tag tag ≡ true → All Names rest → HasNote line (tag ∷ rest) → Fine (connection file kind line rest)
  connection_fine kind line tag [] t h k = nothing Conn
  connection_fine kind line tag (a ∷ []) t h k = nothing Conn
  connection_fine kind line tag (a ∷ b ∷ rest) t h k =
      connected_fine kind (note_after 3 line) (node_in file a) (direction_in b) (all_head Names a (b ∷ rest) h).name (λ node way e f. k.conn tag a b rest node way refl t e f)

  starred_fine : (note : List ℕ) (o : Option NodeName) → ((node : NodeName) → o ≡ Some node → N node) → ((node : NodeName) → o ≡ Some node → M note) → Fine (starred note o)
  starred_fine note None n m = nothing Conn
  starred_fine note (Some node) n m = record { fine = (n node refl, m node refl) }

  star_fine : (line : List ℕ) (tag : List ℕ) (rest : Line) → bytes_eq tag (codes "*N") ≡ true → All Names rest → HasNote line (tag ∷ rest) → Fine (star file line rest)
  star_fine line tag [] t h k = nothing Conn
  star_fine line tag (a ∷ rest) t h k = starred_fine (note_after 2 line) (node_in file a) (all_head Names a rest h).name (λ node e. k.star tag a rest node refl t e)

  conn_fine : (line : List ℕ) (ws : Line) → All Names ws → HasNote line ws → Fine (conn_line file line ws)
  unfolding conn_line
  conn_fine line [] h k = nothing Conn
  conn_fine line (tag ∷ rest) h k =
      let more = all_tail Names tag rest h in
      fine_if (bytes_eq tag (codes "*I")) _ _ (λ e. connection_fine Pin line tag rest (or_first (bytes_eq tag (codes "*I")) (bytes_eq tag (codes "*P")) e) more k)
      (λ _. fine_if (bytes_eq tag (codes "*P")) _ _ (λ e. connection_fine Port line tag rest (or_second (bytes_eq tag (codes "*I")) (bytes_eq tag (codes "*P")) e) more k)
      (λ _. fine_if (bytes_eq tag (codes "*N")) (star file line rest) (Err Conn) (λ e. star_fine line tag rest e more k) (λ _. nothing Conn)))

  ground_fine : (o : Option NodeName) (value : Result ℕ NumFault) → ((node : NodeName) → o ≡ Some node → N node) → Fine (ground o value)
  ground_fine None value n = nothing Cap
  ground_fine (Some node) value n = record { fine = n node refl }

  coupling_fine : (a b : Option NodeName) (value : Result ℕ NumFault) → ((node : NodeName) → a ≡ Some node → N node) → ((node : NodeName) → b ≡ Some node → N node) → Fine (coupling (both a b) value)
  coupling_fine None b value n m = nothing Cap
  coupling_fine (Some a) None value n m = nothing Cap
  coupling_fine (Some a) (Some b) value n m = record { fine = (n a refl, m b refl) }

  resistor_fine : (a b : Option NodeName) (value : Result ℕ NumFault) → ((node : NodeName) → a ≡ Some node → N node) → ((node : NodeName) → b ≡ Some node → N node) → Fine (resistor (both a b) value)
  resistor_fine None b value n m = nothing Res
  resistor_fine (Some a) None value n m = nothing Res
  resistor_fine (Some a) (Some b) value n m = record { fine = (n a refl, m b refl) }

  second : (w x : List ℕ) (ws : Line) → All Names (w ∷ x ∷ ws) → (node : NodeName) → node_in file x ≡ Some node → N node
  second w x ws h = (all_head Names x ws (all_tail Names w (x ∷ ws) h)).name

  cap_fine : (ws : Line) → All Names ws → Fine (cap_line file ws)
  unfolding cap_line
  cap_fine [] h = nothing Cap
  cap_fine (a ∷ []) h = nothing Cap
  cap_fine (a ∷ b ∷ []) h = nothing Cap
  cap_fine (a ∷ b ∷ c ∷ []) h = ground_fine (node_in file b) _ (second a b (c ∷ []) h)
  cap_fine (a ∷ b ∷ c ∷ d ∷ []) h = coupling_fine (node_in file b) (node_in file c) _ (second a b (c ∷ d ∷ []) h) (second b c (d ∷ []) (all_tail Names a (b ∷ c ∷ d ∷ []) h))
  cap_fine (a ∷ b ∷ c ∷ d ∷ e ∷ es) h = nothing Cap

  res_fine : (ws : Line) → All Names ws → Fine (res_line file ws)
  unfolding res_line
  res_fine [] h = nothing Res
  res_fine (a ∷ []) h = nothing Res
  res_fine (a ∷ b ∷ []) h = nothing Res
  res_fine (a ∷ b ∷ c ∷ []) h = nothing Res
  res_fine (a ∷ b ∷ c ∷ d ∷ []) h = resistor_fine (node_in file b) (node_in file c) _ (second a b (c ∷ d ∷ []) h) (second b c (d ∷ []) (all_tail Names a (b ∷ c ∷ d ∷ []) h))
  res_fine (a ∷ b ∷ c ∷ d ∷ e ∷ es) h = nothing Res

  in_fine : (part : Part) (line : List ℕ) (ws : Line) → IsLine line ws → Fine (statement_in part file line ws)
  in_fine Nowhere line ws h = nothing Conn
  in_fine Conns line ws h = conn_fine line ws h.names h.notes
  in_fine Caps line ws h = cap_fine ws h.names
  in_fine Ress line ws h = res_fine ws h.names
  in_fine Inducs line ws h = record { fine = tt }

  opens_fine : (part : Option Part) (line : Stated) → Fine line → Fine (statement_or_opens part line)
  opens_fine (Some part) line h = record { fine = tt }
  opens_fine None line h = h

  words_fine : (part : Part) (line : List ℕ) (ws : Line) → IsLine line ws → Fine (statement_of_words file part line ws)
  unfolding statement_of_words
  words_fine part line [] h = record { fine = tt }
  words_fine part line (word ∷ rest) h = opens_fine (head_of (word ∷ rest)) (statement_in part file line (word ∷ rest)) (in_fine part line (word ∷ rest) h)

  pub record AreFine (all : List Stated) : Type 0 where
    pub lines : All Fine all

  from_fine : (part : Part) (ls : List (List ℕ)) → All (λ line. IsLine line (words line)) ls → AreFine (statements_from file part ls)
  unfolding statements_from
  from_fine part [] h = record { lines = all_nil Fine }
  from_fine part (line ∷ ls) h =
      let more = from_fine (part_after part (statement_of file part line)) ls (all_tail (λ l. IsLine l (words l)) line ls h) in
      record { lines = all_cons Fine _ _ (words_fine part line (words line) (all_head (λ l. IsLine l (words l)) line ls h)) more.lines }

  pub statements_fine : (ls : List (List ℕ)) → All (λ line. IsLine line (words line)) ls → AreFine (statements file ls)
  statements_fine ls h = from_fine Nowhere ls h

  -- a connection is at a node of its kind
  placed_in : (line : Stated) (row : ConnKind × NodeName × Direction) → Fine line → conn_in line ≡ Some row → is_at row.0 row.1 ≡ true
  placed_in (Err kind) row h e = absurd (cc)
  placed_in (Ok (Opens part)) row h e = absurd (cc)
  placed_in (Ok Nothing) row h e = absurd (cc)
  placed_in (Ok (Connects kind way node note)) row h e = subst (λ (r : ConnKind × NodeName × Direction). is_at r.0 r.1 ≡ true) (same_Some _ _ e) h.fine.0
  placed_in (Ok (Star node note)) row h e = absurd (cc)
  placed_in (Ok (Ground node value)) row h e = absurd (cc)
  placed_in (Ok (Coupling a b value)) row h e = absurd (cc)
  placed_in (Ok (Resistor a b value)) row h e = absurd (cc)

  pub conns_placed : (all : List Stated) → AreFine all → All (λ row. is_at row.0 row.1 ≡ true) (conns_of all)
  conns_placed all h = all_filter_map (λ (row : ConnKind × NodeName × Direction). is_at row.0 row.1 ≡ true) Fine conn_in all placed_in h.lines

-- of any line the connection is at a node of its kind
pub all_placed : (file : File) (ls : List (List ℕ)) → All (λ row. is_at row.0 row.1 ≡ true) (conns_of (statements file ls))
all_placed file ls =
    let any : NodeName → Type 0 = λ _. Unit {0} in
    let some : List ℕ → Type 0 = λ _. Unit {0} in
    let here : (line : List ℕ) → IsLine any some file line (words line) = λ line. record {
      names = λ k d l. record { name = λ node e. tt };
      notes = record { conn = λ tag node direction rest name way e f g h. tt; star = λ tag node rest name e f g. tt };
    } in
    conns_placed any some file (statements file ls) (statements_fine any some file ls (λ k d l. here (get_or ls k d)))
