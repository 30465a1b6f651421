-- The prefix of a net's inner nodes, and their numbers.
use Rattle.std.proofs.Common.{◌≡◌, ℕ, zero, suc, ◌+◌, ◌*◌, ◌-◌, ◌^◌, ◌<◌, ◌≤◌, Bool, true, false, ◌||◌, ◌&&◌, not, cond, eqb, nat_lt, List, [], ◌∷◌, ◌++◌, length, get_or, take, drop, refl, sym, ap, ◌∙◌, subst, arith, Option, Some, None, Result, Ok, Err, inl, inr, length-append}
use Rattle.std.specs.Prelude.{OnOk, OnErr}
use Rattle.std.proofs.lemmas.Option.{slice_get_within}
use Rattle.std.proofs.lemmas.Bool.{cases_lt, cases_eq}
use Rattle.std.proofs.Math.Nat.{mul-le-mul_right, pow-le-pow_right}
use Rattle.std.specs.List.{slice_set}
use Rattle.std.proofs.Common.{length-take}
use Rattle.std.proofs.Math.Seq.{take-suc}
use Rattle.std.proofs.lemmas.Int.{clamps}
use Rattle.std.proofs.lemmas.Bool.Decides.{nat_tests}
use Rattle.std.proofs.lemmas.List.{take_all, take-append-drop}
use Rattle.std.proofs.lemmas.Slice.Eq.{bytes_eq-Decides}
use Rattle.std.specs.Str.{bytes_eq}
use Rattle.std.proofs.Common.{length-drop}
use Rattle.std.proofs.lemmas.List.Folds.{list_all_more}
use Rattle.vg_num.proofs.ReadingLemmas.{are_some}
use Rattle.vg_num.proofs.CapLemmas.{value_after-append}
use Rattle.spef_nodes.proofs.SpellLemmas.{other_byte}
use Rattle.std.specs.List.{slice_get, list_all}
use Rattle.vg_num.specs.declared.memory.Memory.{Memory}
use Rattle.vg_num.specs.Number.{is_digit, are_digits, value_of, value_after}
use Rattle.vg_num.proofs.CapLemmas.{value_after-shift, value_of-lt, digit-le}
use Rattle.vg_scan.specs.declared.name.NodeName.{NodeName}
use Rattle.vg_scan.specs.Nodes.{has_node}
use Rattle.spef_file.specs.Files.{File}
use Rattle.spef_nodes.specs.Members.{node_named, with_node, Owns, is_inner}
use Rattle.spef_nodes.proofs.NodeTableLemmas.{slice_get_front, with_there, same_refl}
use Rattle.spef_nodes.proofs.NodeListLemmas.{slice_get-with_node}
use Rattle.spef_nodes.proofs.ApartLemmas.{has_at}
use Rattle.spef_nodes.specs.NodeReaders.{NetNodes, SeesNode, Writes, AreNumbers, IsKnown, IsReader}
use Rattle.spef_nodes.specs.declared.node_reader.Known.{Known}
use Rattle.spef_nodes.specs.Names.{node_in}

-- a node that is there stays where it is
stays_if : (b : Bool) (nodes : List NodeName) (node : NodeName) (id : ℕ) (x : NodeName) → slice_get nodes id ≡ Some x → slice_get (cond b nodes (nodes ++ node ∷ [])) id ≡ Some x
stays_if true nodes node id x e = e
stays_if false nodes node id x e = slice_get_front nodes (node ∷ []) id (slice_get_within nodes id x e) ∙ e

stays : (nodes new : List NodeName) (node : NodeName) (id : ℕ) (x : NodeName) → new ≡ with_node nodes node → slice_get nodes id ≡ Some x → slice_get new id ≡ Some x
stays nodes new node id x e h = ap (λ ns. slice_get ns id) e ∙ stays_if (has_node nodes node) nodes node id x h

known_if : (b : Bool) (file : File) (net : List ℕ) (nodes : List NodeName) (node : NodeName) (o : Option Known)
    → IsKnown (record { file = file; net = net; nodes = nodes }) o → IsKnown (record { file = file; net = net; nodes = cond b nodes (nodes ++ node ∷ []) }) o
known_if true file net nodes node o h = h
known_if false file net nodes node None h = tt
known_if false file net nodes node (Some k) h = (h.0 ∙ sym (slice_get_front nodes (node ∷ []) k.id h.1), omega (arith, h.1, length-append nodes (node ∷ [])))

known_more : (file : File) (net : List ℕ) (nodes new : List NodeName) (node : NodeName) → new ≡ with_node nodes node → (o : Option Known)
    → IsKnown (record { file = file; net = net; nodes = nodes }) o → IsKnown (record { file = file; net = net; nodes = new }) o
known_more file net nodes new node e o h = subst (λ ns. IsKnown (record { file = file; net = net; nodes = ns }) o) (sym e) (known_if (has_node nodes node) file net nodes node o h)

pub leads_more : (file : File) (net : List ℕ) (nodes new : List NodeName) (node : NodeName) (prefix numbers : List ℕ) (slots : List (Option Known)) → new ≡ with_node nodes node
    → IsReader (record { file = file; net = net; nodes = nodes }) prefix numbers slots → IsReader (record { file = file; net = net; nodes = new }) prefix numbers slots
leads_more file net nodes new node prefix numbers slots e r = record {
  begins = r.begins;
  leads = λ number id at leaf w. stays nodes new node id (node_named net leaf) e (r.leads number id at leaf w);
  known = λ i. known_more file net nodes new node e (get_or slots i None) (r.known i);
}

-- after the look-up of a node
pub leads_interned : (r : Result ℕ Memory) (file : File) (net : List ℕ) (nodes new : List NodeName) (node : NodeName) (prefix numbers : List ℕ) (slots : List (Option Known))
    → OnOk r (new ≡ with_node nodes node) → OnErr r (new ≡ nodes) → IsReader (record { file = file; net = net; nodes = nodes }) prefix numbers slots → IsReader (record { file = file; net = net; nodes = new }) prefix numbers slots
leads_interned (Ok id) file net nodes new node prefix numbers slots e f h = leads_more file net nodes new node prefix numbers slots e h
leads_interned (Err m) file net nodes new node prefix numbers slots e f h = subst (λ ns. IsReader (record { file = file; net = net; nodes = ns }) prefix numbers slots) (sym f) h

pub leads_owned : (r : Result (Option ℕ) Memory) (file : File) (net : List ℕ) (nodes new : List NodeName) (node : NodeName) (prefix numbers : List ℕ) (slots : List (Option Known))
    → Owns r net nodes node new → OnErr r (new ≡ nodes) → IsReader (record { file = file; net = net; nodes = nodes }) prefix numbers slots → IsReader (record { file = file; net = net; nodes = new }) prefix numbers slots
leads_owned (Ok (Some id)) file net nodes new node prefix numbers slots o f h = leads_more file net nodes new node prefix numbers slots o.2 h
leads_owned (Ok None) file net nodes new node prefix numbers slots o f h = subst (λ ns. IsReader (record { file = file; net = net; nodes = ns }) prefix numbers slots) (sym o.1) h
leads_owned (Err m) file net nodes new node prefix numbers slots o f h = subst (λ ns. IsReader (record { file = file; net = net; nodes = ns }) prefix numbers slots) (sym f) h

-- a node that is there is the net's
pub seen_there : (net : List ℕ) (nodes : List NodeName) (id : ℕ) (node : NodeName) → slice_get nodes id ≡ Some node → SeesNode (Ok (Some id)) net nodes (Some node) nodes
seen_there net nodes id node at = (node, refl, (ap (λ b. b || is_inner net node) (has_at nodes id node at), slice_get-with_node nodes node id node at, with_there nodes id node same_refl at))

some_at : {A : Type 0} (xs : List A) (i : ℕ) → i < length xs → (x : A) × (slice_get xs i ≡ Some x)
some_at [] i h = absurd (omega (arith, h))
some_at (x ∷ xs) zero h = (x, refl)
some_at (x ∷ xs) (suc i) h = some_at xs i (omega (arith, h))

-- a known text is that of a node of the net
pub seen_known : (net : List ℕ) (nodes : List NodeName) (id : ℕ) (o : Option NodeName) → o ≡ slice_get nodes id → id < length nodes → SeesNode (Ok (Some id)) net nodes o nodes
seen_known net nodes id o e h =
    let (node, at) = some_at nodes id h in
    (node, e ∙ at, (ap (λ b. b || is_inner net node) (has_at nodes id node at), slice_get-with_node nodes node id node at, with_there nodes id node same_refl at))

-- the number of an owned node is that of a node
pub owned_within : (net : List ℕ) (old new : List NodeName) (node : NodeName) (id : ℕ) → Owns (Ok (Some id)) net old node new → id < length new
owned_within net old new node id (known, at, is) = slice_get_within new id node (ap (λ ns. slice_get ns id) is ∙ at)

-- two digits and what stands before them
split_digit : (m n a b : ℕ) → is_digit a ≡ true → is_digit b ≡ true → m * 10 + (a - 48) ≡ n * 10 + (b - 48) → (m ≡ n) × (a ≡ b)
split_digit m n a b h k e = let p = digit-le a h in let q = digit-le b k in (omega (arith, p.0, p.1, q.0, q.1), omega (arith, p.0, p.1, q.0, q.1))

and_both : (a b : Bool) → (a && b) ≡ true → (a ≡ true) × (b ≡ true)
and_both true b e = (refl, e)
and_both false b e = absurd (cc)

-- digits of one length that write one number are the same
same_length : (a b : List ℕ) (m n : ℕ) → length a ≡ length b → list_all is_digit a ≡ true → list_all is_digit b ≡ true → value_after m a ≡ value_after n b → (m ≡ n) × (a ≡ b)
same_length [] [] m n l h k e = (e, refl)
same_length [] (y ∷ ys) m n l h k e = absurd (omega (arith, l))
same_length (x ∷ xs) [] m n l h k e = absurd (omega (arith, l))
same_length (x ∷ xs) (y ∷ ys) m n l h k e =
    let p = and_both (is_digit x) (list_all is_digit xs) h in
    let q = and_both (is_digit y) (list_all is_digit ys) k in
    let later = same_length xs ys (m * 10 + (x - 48)) (n * 10 + (y - 48)) (omega (arith, l)) p.1 q.1 e in
    let here = split_digit m n x y p.0 q.0 later.0 in
    (here.0, rw (here.1, later.1) refl)

-- digits of which the first is no zero write more than fewer digits can
first_digit : (x p v : ℕ) → is_digit x ≡ true → eqb x 48 ≡ false → p ≤ (0 * 10 + (x - 48)) * p + v
first_digit x p v h k =
    let d = digit-le x h in
    let other : x ≡ 48 → ⊥ = λ e. absurd (let t : eqb x 48 ≡ true = ap (λ n. eqb n 48) e in cc) in
    let some : 1 ≤ 0 * 10 + (x - 48) = omega (arith, d.0, d.1, other) in
    omega (arith, mul-le-mul_right p some)

least : (ds : List ℕ) (n : ℕ) → Writes ds n → (k : ℕ) → length ds ≡ suc k → 10 ^ k ≤ n
least [] n w k e = absurd (omega (arith, e))
least (x ∷ xs) n (digits, first, is) k e =
    let all = (and_both (nat_lt 0 (length (x ∷ xs))) (list_all is_digit (x ∷ xs)) digits).1 in
    let here = (and_both (is_digit x) (list_all is_digit xs) all).0 in
    let same : length xs ≡ k = omega (arith, e) in
    let low : 10 ^ length xs ≤ value_of (x ∷ xs) = rw (value_after-shift xs (0 * 10 + (x - 48))) (first_digit x (10 ^ length xs) (value_of xs) here first) in
    subst (λ m. 10 ^ m ≤ n) same (subst (λ v. 10 ^ length xs ≤ v) is low)

all_digits : (ds : List ℕ) → are_digits ds ≡ true → list_all is_digit ds ≡ true
all_digits ds h = (and_both (nat_lt 0 (length ds)) (list_all is_digit ds) h).1

no_longer : (a b : List ℕ) (n : ℕ) → Writes a n → Writes b n → length a ≤ length b
no_longer a b n v w = elim (cases_lt (length b) (length a)) as (λ _. length a ≤ length b) [
  | inl more ↦
      let k = length a - 1 in
      let low : 10 ^ k ≤ n = least a n v k (omega (arith, more)) in
      let high : n < 10 ^ length b = subst (λ m. m < 10 ^ length b) w.2 (value_of-lt b (all_digits b w.0)) in
      let powers : 10 ^ length b ≤ 10 ^ k = pow-le-pow_right (omega arith) (omega (arith, more)) in
      absurd (omega (arith, low, high, powers))
  | inr less ↦ omega (arith, less)
]

-- one number is written in one way
pub written_once : (a b : List ℕ) (n : ℕ) → Writes a n → Writes b n → a ≡ b
written_once a b n v w =
    (same_length a b 0 0 (omega (arith, no_longer a b n v w, no_longer b a n w v)) (all_digits a v.0) (all_digits b w.0) (v.2 ∙ sym w.2)).1

-- few digits write a small number
pub few_digits : (text : List ℕ) (i v : ℕ) → i ≤ 9 → v ≡ value_of (take i text) → list_all is_digit (take i text) ≡ true → v < 10 ^ 9
few_digits text i v few is digits =
    let less : v < 10 ^ length (take i text) = subst (λ m. m < 10 ^ length (take i text)) (sym is) (value_of-lt (take i text) digits) in
    let short : length (take i text) ≤ 9 = omega (arith, length-take i text, few, clamps) in
    let powers : 10 ^ length (take i text) ≤ 10 ^ 9 = pow-le-pow_right (omega arith) short in
    omega (arith, less, powers)

pub digit_is : (b : ℕ) → 48 ≤ b → b ≤ 57 → is_digit b ≡ true
digit_is b low high = grind (arith, nat_tests)

-- one digit more
pub value_more : (text : List ℕ) (i v d : ℕ) → i < length text → v ≡ value_of (take i text) → d ≡ get_or text i 0 - 48 → v * 10 + d ≡ value_of (take (i + 1) text)
value_more text i v d low is digit =
    let more : take (i + 1) text ≡ take i text ++ get_or text i 0 ∷ [] = ap (λ n. take n text) (let e : i + 1 ≡ suc i = omega arith in e) ∙ take-suc text i 0 low in
    ap (λ m. m * 10 + d) is ∙ ap (λ m. value_of (take i text) * 10 + m) digit ∙ sym (ap value_of more ∙ value_after-append (take i text) (get_or text i 0 ∷ []) 0)

and_two : (a b : Bool) → a ≡ true → b ≡ true → (a && b) ≡ true
and_two true b e f = f
and_two false b e f = absurd (cc)

pub digits_more : (text : List ℕ) (i : ℕ) → i < length text → list_all is_digit (take i text) ≡ true → is_digit (get_or text i 0) ≡ true → list_all is_digit (take (i + 1) text) ≡ true
digits_more text i low digits is = list_all_more is_digit text i 0 low ∙ and_two (list_all is_digit (take i text)) (is_digit (get_or text i 0)) digits is

pub all_written : (text : List ℕ) (i v : ℕ) → eqb (length text) 0 ≡ false → (get_or text 0 0 ≡ 48 → ⊥) → length text ≤ i → v ≡ value_of (take i text) → list_all is_digit (take i text) ≡ true → Writes text v
all_written text i v some first all is digits =
    let same : take i text ≡ text = take_all i text all in
    let more : list_all is_digit text ≡ true = ap (list_all is_digit) (sym same) ∙ digits in
    (are_some text (omega (arith, some_length text some)) more, other_byte (get_or text 0 0) 48 first, sym (is ∙ ap value_of same))
  where
    some_length : (xs : List ℕ) → eqb (length xs) 0 ≡ false → 0 < length xs
    some_length [] e = absurd (cc)
    some_length (x ∷ xs) e = omega arith

-- a number more

pub numbers_more : (reader : NetNodes) (numbers : List ℕ) (number id : ℕ) (leaf : List ℕ) → Writes leaf number → slice_get reader.nodes id ≡ Some (node_named reader.net leaf)
    → number < length numbers → AreNumbers reader numbers → AreNumbers reader (slice_set numbers number (id + 1))
numbers_more reader numbers number id leaf w at low old = λ other other_id there other_leaf writes.
    elim (cases_eq other number) as (λ _. slice_get reader.nodes other_id ≡ Some (node_named reader.net other_leaf)) [
      | inl same ↦
          let here : get_or (slice_set numbers number (id + 1)) number 0 ≡ suc other_id = ap (λ m. get_or (slice_set numbers number (id + 1)) m 0) (sym same) ∙ there in
          let ids : id ≡ other_id = omega (arith, slice_set_here numbers number (id + 1) low, here) in
          let leaves : leaf ≡ other_leaf = written_once leaf other_leaf number w (subst (λ m. Writes other_leaf m) same writes) in
          ap (slice_get reader.nodes) (sym ids) ∙ at ∙ ap (λ l. Some (node_named reader.net l)) leaves
      | inr differ ↦ old other other_id (sym (slice_set_there numbers number other (id + 1) differ) ∙ there) other_leaf writes
    ]
  where
    slice_set_here : (xs : List ℕ) (i x : ℕ) → i < length xs → get_or (slice_set xs i x) i 0 ≡ x
    slice_set_here [] i x h = absurd (omega (arith, h))
    slice_set_here (y ∷ ys) zero x h = refl
    slice_set_here (y ∷ ys) (suc i) x h = slice_set_here ys i x (omega (arith, h))

    slice_set_there : (xs : List ℕ) (i j x : ℕ) → (j ≡ i → ⊥) → get_or (slice_set xs i x) j 0 ≡ get_or xs j 0
    slice_set_there [] i j x h = refl
    slice_set_there (y ∷ ys) zero zero x h = absurd (h refl)
    slice_set_there (y ∷ ys) zero (suc j) x h = refl
    slice_set_there (y ∷ ys) (suc i) zero x h = refl
    slice_set_there (y ∷ ys) (suc i) (suc j) x h = slice_set_there ys i j x (λ e. h (ap suc e))

not_false : (b : Bool) → false ≡ not b → b ≡ true
not_false true e = refl
not_false false e = absurd (cc)

-- a text that has the prefix
pub leaf_found : (reader : NetNodes) (prefix numbers text leaf : List ℕ) (slots : List (Option Known)) (n : ℕ) → IsReader reader prefix numbers slots → (length prefix ≡ 0 → ⊥) → length prefix < length text
    → false ≡ not (bytes_eq (take (length prefix) text) prefix) → leaf ≡ take (length text - length prefix) (drop (length prefix) text) → Writes leaf n
    → (node_in reader.file text ≡ Some (node_named reader.net leaf)) × Writes leaf n
leaf_found reader prefix numbers text leaf slots n r some low same is w =
    let k = length prefix in
    let rest : leaf ≡ drop k text = is ∙ take_all (length text - k) (drop k text) (omega (arith, length-drop k text)) in
    let begins : take k text ≡ prefix = (bytes_eq-Decides (take k text) prefix).0 (not_false (bytes_eq (take k text) prefix) same) in
    let whole : prefix ++ leaf ≡ text = ap (λ p. p ++ leaf) (sym begins) ∙ ap (λ l. take k text ++ l) rest ∙ take-append-drop k text in
    (subst (λ t. node_in reader.file t ≡ Some (node_named reader.net leaf)) whole (r.begins leaf (other_byte k 0 some) w.0), w)
