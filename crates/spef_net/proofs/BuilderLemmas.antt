-- A builder, one line later.
use Rattle.std.proofs.Common.{◌≡◌, ℕ, Bool, true, false, ◌||◌, cond, eqb, map, List, [], ◌∷◌, ◌++◌, refl, sym, ap, ◌∙◌, subst, Option, Some, Ok, append_assoc}
use Rattle.std.proofs.lemmas.List.{append-nil}
use Rattle.std.proofs.lemmas.List.Elements.{filter_map-append}
use Rattle.std.proofs.lemmas.List.Sums.{fold-append}
use Rattle.std.proofs.lemmas.Grind.{flat_map-append}
use Rattle.std.specs.List.{slice_get, fold, flat_map, filter_map, cons_option}
use Rattle.vg_scan.specs.declared.name.NodeName.{NodeName}
use Rattle.spef_net.specs.declared.net.ConnKind.{ConnKind}
use Rattle.spef_net.specs.declared.net.Direction.{Direction}
use Rattle.spef_net.specs.declared.part.Part.{Part}
use Rattle.spef_net.specs.Statements.{Opens, Nothing, Connects, Star, Ground, Coupling, Resistor}
use Rattle.vg_scan.specs.Nodes.{has_node}
use Rattle.spef_nodes.specs.Members.{with_node, distinct}
use Rattle.spef_nodes.specs.Nodes.{Note, fresh, joined, starred, note_at, is_starred}
use Rattle.spef_net.specs.Statements.{Stated}
use Rattle.spef_net.specs.Rows.{conn_in, joined_in, starred_in, cap_in, res_in, named_in, own_one, is_inductance, conns_of, joined_of, starred_of, caps_of, ress_of, nodes_of}
use Rattle.spef_net.specs.Denoted.{AreConns, AreCaps, AreRess}
use Rattle.spef_net.specs.Builders.{PartialNet, IsPartialNet, noted_by, AreNoted}
use Rattle.spef_nodes.specs.Members.{is_known}
use Rattle.spef_nodes.proofs.NodeListLemmas.{any-last, known-with_node, slice_get-with_node}
use Rattle.spef_net.proofs.RowListLemmas.{conns_grow, caps_grow, ress_grow, conns_more, caps_more, ress_more}
use Rattle.spef_nodes.proofs.ApartLemmas.{apart_if, apart_fold}
use Rattle.spef_nodes.specs.Members.{AreApart}
use Rattle.spef_file.specs.Files.{File}
use Rattle.spef_nodes.specs.Names.{node_in}
use Rattle.spef_net.specs.Sights.{Sees, SeesTwo, two_in}
use Rattle.spef_net.proofs.NotedLemmas.{noted_kept, noted_grow, noted_conn, noted_star, noted_again}

-- what a builder is after one line more
pub record IsNext (connected : List NodeName) (net : List ℕ) (before : List Stated) (old : PartialNet) (line : Stated) (new : PartialNet) : Type 0 where
  pub nodes : new.nodes ≡ fold with_node old.nodes (named_in connected net line)
  pub own : (node : NodeName) → is_known new.nodes net node ≡ is_known old.nodes net node
  pub noted : AreNoted new.nodes new.notes (joined_of before ++ cons_option (joined_in line) []) (starred_of before ++ cons_option (starred_in line) [])
  pub conns : AreConns new.nodes new.conns (conns_of before ++ cons_option (conn_in line) [])
  pub caps : AreCaps new.nodes new.caps (caps_of connected net before ++ cons_option (cap_in connected net line) [])
  pub ress : AreRess new.nodes new.ress (ress_of before ++ cons_option (res_in line) [])
  pub inductive : new.inductive ≡ (old.inductive || is_inductance line)

kept-last : {A : Type 0} (kind : Stated → Option A) (before : List Stated) (line : Stated) → filter_map kind (before ++ line ∷ []) ≡ filter_map kind before ++ cons_option (kind line) []
kept-last kind before line = filter_map-append kind before (line ∷ [])

nodes-last : (connected : List NodeName) (net : List ℕ) (before : List Stated) (line : Stated) → nodes_of connected net (before ++ line ∷ []) ≡ fold with_node (nodes_of connected net before) (named_in connected net line)
nodes-last connected net before line =
    let all : connected ++ flat_map (named_in connected net) (before ++ line ∷ []) ≡ (connected ++ flat_map (named_in connected net) before) ++ named_in connected net line =
    ap (λ ns. connected ++ ns) (flat_map-append (named_in connected net) before (line ∷ []) ∙ ap (λ ns. flat_map (named_in connected net) before ++ ns) (append-nil (named_in connected net line)))
    ∙ sym (append_assoc connected (flat_map (named_in connected net) before) (named_in connected net line)) in
    ap distinct all ∙ fold-append with_node [] (connected ++ flat_map (named_in connected net) before) (named_in connected net line)

pub partial_more : (connected : List NodeName) (net : List ℕ) (before : List Stated) (old : PartialNet) (line : Stated) (new : PartialNet)
    → IsPartialNet connected net before old → IsNext connected net before old line new → IsPartialNet connected net (before ++ line ∷ []) new
partial_more connected net before old line new s n = record {
  nodes = n.nodes ∙ ap (λ ns. fold with_node ns (named_in connected net line)) s.nodes ∙ sym (nodes-last connected net before line);
  own = λ node. n.own node ∙ s.own node;
  noted = subst (λ js. AreNoted new.nodes new.notes js (starred_of (before ++ line ∷ []))) (sym (kept-last joined_in before line))
      (subst (λ ss. AreNoted new.nodes new.notes (joined_of before ++ cons_option (joined_in line) []) ss) (sym (kept-last starred_in before line)) n.noted);
  conns = subst (λ rows. AreConns new.nodes new.conns rows) (sym (kept-last conn_in before line)) n.conns;
  caps = subst (λ rows. AreCaps new.nodes new.caps rows) (sym (kept-last (cap_in connected net) before line)) n.caps;
  ress = subst (λ rows. AreRess new.nodes new.ress rows) (sym (kept-last res_in before line)) n.ress;
  inductive = n.inductive ∙ ap (λ b. b || is_inductance line) s.inductive ∙ sym (any-last is_inductance before line);
}

no_more : {A : Type 0} (xs : List A) → xs ≡ xs ++ []
no_more xs = sym (append-nil xs)

no_conn : (rows : List (ConnKind × NodeName × Direction)) → map {B = ConnKind × Option NodeName × Direction} (λ row. (row.0, Some row.1, row.2)) rows ≡ map (λ row. (row.0, Some row.1, row.2)) (rows ++ [])
no_conn rows = ap (map {B = ConnKind × Option NodeName × Direction} (λ row. (row.0, Some row.1, row.2))) (no_more rows)

no_cap : (rows : List (NodeName × ℕ)) → map {B = Option NodeName × ℕ} (λ row. (Some row.0, row.1)) rows ≡ map (λ row. (Some row.0, row.1)) (rows ++ [])
no_cap rows = ap (map {B = Option NodeName × ℕ} (λ row. (Some row.0, row.1))) (no_more rows)

no_res : (rows : List (NodeName × NodeName × ℕ)) → map {B = Option NodeName × Option NodeName × ℕ} (λ row. (Some row.0, Some row.1, row.2)) rows ≡ map (λ row. (Some row.0, Some row.1, row.2)) (rows ++ [])
no_res rows = ap (map {B = Option NodeName × Option NodeName × ℕ} (λ row. (Some row.0, Some row.1, row.2))) (no_more rows)

or_false : (b : Bool) → b ≡ (b || false)
or_false true = refl
or_false false = refl

-- a head
pub head_next : (connected : List NodeName) (net : List ℕ) (before : List Stated) (old : PartialNet) (part : Part) (inductive : Bool) → IsPartialNet connected net before old
    → inductive ≡ (old.inductive || is_inductance (Ok (Opens part))) → IsNext connected net before old (Ok (Opens part)) (record old { inductive = inductive })
head_next connected net before old part inductive s e = record {
  nodes = refl;
  own = λ node. refl;
  noted = noted_kept old.nodes old.notes (joined_of before) (starred_of before) s.noted;
  conns = s.conns ∙ no_conn (conns_of before);
  caps = s.caps ∙ no_cap (caps_of connected net before);
  ress = s.ress ∙ no_res (ress_of before);
  inductive = e;
}

-- a line that says nothing
pub nothing_next : (connected : List NodeName) (net : List ℕ) (before : List Stated) (old : PartialNet) → IsPartialNet connected net before old → IsNext connected net before old (Ok Nothing) old
nothing_next connected net before old s = record {
  nodes = refl;
  own = λ node. refl;
  noted = noted_kept old.nodes old.notes (joined_of before) (starred_of before) s.noted;
  conns = s.conns ∙ no_conn (conns_of before);
  caps = s.caps ∙ no_cap (caps_of connected net before);
  ress = s.ress ∙ no_res (ress_of before);
  inductive = or_false old.inductive;
}

-- what is noted at a node's number
pub noted_there : (connected : List NodeName) (net : List ℕ) (before : List Stated) (old : PartialNet) (node : NodeName) (id : ℕ) → IsPartialNet connected net before old
    → slice_get (with_node old.nodes node) id ≡ Some node → note_at old.notes id ≡ noted_by (joined_of before) (starred_of before) node
noted_there connected net before old node id s at = (noted_grow old.nodes node old.notes (joined_of before) (starred_of before) s.noted).here id node at

-- no node of a builder is another one of it
apart_more : (connected : List NodeName) (net : List ℕ) (before : List Stated) (old : PartialNet) (node : NodeName) → IsPartialNet connected net before old → AreApart (with_node old.nodes node)
apart_more connected net before old node s =
    apart_if (has_node old.nodes node) old.nodes node refl (subst (λ ns. AreApart ns) (sym s.nodes) (apart_fold (connected ++ flat_map (named_in connected net) before) [] tt))

-- a connection
pub conn_next : (connected : List NodeName) (net : List ℕ) (before : List Stated) (old : PartialNet) (kind : ConnKind) (direction : Direction) (node : NodeName) (note : List ℕ) (id : ℕ) (notes : List Note) → IsPartialNet connected net before old
    → is_known old.nodes net node ≡ true → slice_get (with_node old.nodes node) id ≡ Some node → noted_by (joined_of before) (starred_of before) node ≡ fresh
    → ((i : ℕ) → note_at notes i ≡ cond (eqb i id) (joined note) (note_at old.notes i))
    → IsNext connected net before old (Ok (Connects kind direction node note)) (record old { nodes = with_node old.nodes node; notes = notes; conns = old.conns ++ record { kind = kind; node = id; direction = direction } ∷ [] })
conn_next connected net before old kind direction node note id notes s known at none put = record {
  nodes = refl;
  own = λ q. known-with_node old.nodes net node q known;
  noted = subst (λ ss. AreNoted (with_node old.nodes node) notes (joined_of before ++ (node, note) ∷ []) ss) (no_more (starred_of before))
      (noted_conn (with_node old.nodes node) old.notes notes (joined_of before) (starred_of before) node note id (noted_grow old.nodes node old.notes (joined_of before) (starred_of before) s.noted) (apart_more connected net before old node s) at none put);
  conns = conns_more (with_node old.nodes node) old.conns (conns_of before) kind id node direction (conns_grow old.nodes node old.conns (conns_of before) s.conns) at;
  caps = caps_grow old.nodes node old.caps (caps_of connected net before) s.caps ∙ no_cap (caps_of connected net before);
  ress = ress_grow old.nodes node old.ress (ress_of before) s.ress ∙ no_res (ress_of before);
  inductive = or_false old.inductive;
}

-- a `*N` line of a node without a note, and one of a node that has a note
pub star_next : (connected : List NodeName) (net : List ℕ) (before : List Stated) (old : PartialNet) (node : NodeName) (note : List ℕ) (id : ℕ) (notes : List Note) → IsPartialNet connected net before old
    → is_known old.nodes net node ≡ true → slice_get (with_node old.nodes node) id ≡ Some node → noted_by (joined_of before) (starred_of before) node ≡ fresh
    → ((i : ℕ) → note_at notes i ≡ cond (eqb i id) (starred note) (note_at old.notes i))
    → IsNext connected net before old (Ok (Star node note)) (record old { nodes = with_node old.nodes node; notes = notes })
star_next connected net before old node note id notes s known at none put = record {
  nodes = refl;
  own = λ q. known-with_node old.nodes net node q known;
  noted = subst (λ js. AreNoted (with_node old.nodes node) notes js (starred_of before ++ (node, note) ∷ [])) (no_more (joined_of before))
      (noted_star (with_node old.nodes node) old.notes notes (joined_of before) (starred_of before) node note id (noted_grow old.nodes node old.notes (joined_of before) (starred_of before) s.noted) (apart_more connected net before old node s) at none put);
  conns = conns_grow old.nodes node old.conns (conns_of before) s.conns ∙ no_conn (conns_of before);
  caps = caps_grow old.nodes node old.caps (caps_of connected net before) s.caps ∙ no_cap (caps_of connected net before);
  ress = ress_grow old.nodes node old.ress (ress_of before) s.ress ∙ no_res (ress_of before);
  inductive = or_false old.inductive;
}

pub again_next : (connected : List NodeName) (net : List ℕ) (before : List Stated) (old : PartialNet) (node : NodeName) (note : List ℕ) → IsPartialNet connected net before old → is_known old.nodes net node ≡ true → is_starred (noted_by (joined_of before) (starred_of before) node) ≡ true
    → IsNext connected net before old (Ok (Star node note)) (record old { nodes = with_node old.nodes node })
again_next connected net before old node note s known there = record {
  nodes = refl;
  own = λ q. known-with_node old.nodes net node q known;
  noted = subst (λ js. AreNoted (with_node old.nodes node) old.notes js (starred_of before ++ (node, note) ∷ [])) (no_more (joined_of before))
      (noted_again (with_node old.nodes node) old.notes (joined_of before) (starred_of before) node note (noted_grow old.nodes node old.notes (joined_of before) (starred_of before) s.noted) there);
  conns = conns_grow old.nodes node old.conns (conns_of before) s.conns ∙ no_conn (conns_of before);
  caps = caps_grow old.nodes node old.caps (caps_of connected net before) s.caps ∙ no_cap (caps_of connected net before);
  ress = ress_grow old.nodes node old.ress (ress_of before) s.ress ∙ no_res (ress_of before);
  inductive = or_false old.inductive;
}

-- a capacitor
pub ground_next : (connected : List NodeName) (net : List ℕ) (before : List Stated) (old : PartialNet) (node : NodeName) (value id : ℕ) → IsPartialNet connected net before old → is_known old.nodes net node ≡ true → slice_get (with_node old.nodes node) id ≡ Some node
    → IsNext connected net before old (Ok (Ground node (Ok value))) (record old { nodes = with_node old.nodes node; caps = old.caps ++ (id, value) ∷ [] })
ground_next connected net before old node value id s known at = record {
  nodes = refl;
  own = λ q. known-with_node old.nodes net node q known;
  noted = noted_kept (with_node old.nodes node) old.notes (joined_of before) (starred_of before) (noted_grow old.nodes node old.notes (joined_of before) (starred_of before) s.noted);
  conns = conns_grow old.nodes node old.conns (conns_of before) s.conns ∙ no_conn (conns_of before);
  caps = caps_more (with_node old.nodes node) old.caps (caps_of connected net before) id node value (caps_grow old.nodes node old.caps (caps_of connected net before) s.caps) at;
  ress = ress_grow old.nodes node old.ress (ress_of before) s.ress ∙ no_res (ress_of before);
  inductive = or_false old.inductive;
}

pub coupling_next : (connected : List NodeName) (net : List ℕ) (before : List Stated) (old : PartialNet) (a b node : NodeName) (value id : ℕ) → node ≡ own_one connected net a b → IsPartialNet connected net before old → is_known old.nodes net node ≡ true → slice_get (with_node old.nodes node) id ≡ Some node
    → IsNext connected net before old (Ok (Coupling a b (Ok value))) (record old { nodes = with_node old.nodes node; caps = old.caps ++ (id, value) ∷ [] })
coupling_next connected net before old a b node value id is s known at = record {
  nodes = ap (with_node old.nodes) is;
  own = λ q. known-with_node old.nodes net node q known;
  noted = noted_kept (with_node old.nodes node) old.notes (joined_of before) (starred_of before) (noted_grow old.nodes node old.notes (joined_of before) (starred_of before) s.noted);
  conns = conns_grow old.nodes node old.conns (conns_of before) s.conns ∙ no_conn (conns_of before);
  caps = subst (λ n. AreCaps (with_node old.nodes node) (old.caps ++ (id, value) ∷ []) (caps_of connected net before ++ (n, value) ∷ [])) is (caps_more (with_node old.nodes node) old.caps (caps_of connected net before) id node value (caps_grow old.nodes node old.caps (caps_of connected net before) s.caps) at);
  ress = ress_grow old.nodes node old.ress (ress_of before) s.ress ∙ no_res (ress_of before);
  inductive = or_false old.inductive;
}

-- a resistor
pub resistor_next : (connected : List NodeName) (net : List ℕ) (before : List Stated) (old : PartialNet) (a b : NodeName) (value i j : ℕ) → IsPartialNet connected net before old → is_known old.nodes net a ≡ true → is_known old.nodes net b ≡ true
    → slice_get (with_node old.nodes a) i ≡ Some a → slice_get (with_node (with_node old.nodes a) b) j ≡ Some b
    → IsNext connected net before old (Ok (Resistor a b (Ok value))) (record old { nodes = with_node (with_node old.nodes a) b; ress = old.ress ++ (i, j, value) ∷ [] })
resistor_next connected net before old a b value i j s known also at after = record {
  nodes = refl;
  own = λ q. known-with_node (with_node old.nodes a) net b q (known-with_node old.nodes net a b known ∙ also) ∙ known-with_node old.nodes net a q known;
  noted = noted_kept (with_node (with_node old.nodes a) b) old.notes (joined_of before) (starred_of before)
      (noted_grow (with_node old.nodes a) b old.notes (joined_of before) (starred_of before) (noted_grow old.nodes a old.notes (joined_of before) (starred_of before) s.noted));
  conns = conns_grow (with_node old.nodes a) b old.conns (conns_of before) (conns_grow old.nodes a old.conns (conns_of before) s.conns) ∙ no_conn (conns_of before);
  caps = caps_grow (with_node old.nodes a) b old.caps (caps_of connected net before) (caps_grow old.nodes a old.caps (caps_of connected net before) s.caps) ∙ no_cap (caps_of connected net before);
  ress = ress_more (with_node (with_node old.nodes a) b) old.ress (ress_of before) i j a b value (ress_grow (with_node old.nodes a) b old.ress (ress_of before) (ress_grow old.nodes a old.ress (ress_of before) s.ress)) (slice_get-with_node (with_node old.nodes a) b i a at) after;
  inductive = or_false old.inductive;
}

-- two texts, one after the other
pub seen_two : (file mid_file : File) (net mid_net : List ℕ) → mid_file ≡ file → mid_net ≡ net → (first second : Option ℕ) (old mid new : PartialNet) (a b : List ℕ)
    → Sees (Ok first) net old (node_in file a) mid → Sees (Ok second) mid_net mid (node_in mid_file b) new → SeesTwo (Ok (first, second)) net old (two_in file a b) new
seen_two file mid_file net mid_net f n first second old mid new a b (x, e, owns) s =
    let (y, g, later) = subst (λ (p : File × List ℕ). Sees (Ok second) p.1 mid (node_in p.0 b) new) (λ i. (f i, n i)) s in
    (x, y, mid, (rw (e, g) refl), owns, later)
