-- Lines that cannot open the connections, since no `*CONN` stands in them.
use Rattle.std.proofs.Common.{◌≡◌, ℕ, zero, suc, ◌+◌, ◌-◌, ◌<◌, ◌≤◌, Bool, true, false, cond, eqb, nat_lt, List, [], ◌∷◌, length, get_or, take, refl, sym, ap, ◌∙◌, subst, arith, Option, Some, None, Ok, length-take}
use Rattle.std.proofs.lemmas.Int.{clamps}
use Rattle.std.proofs.lemmas.Slice.Eq.{bytes_eq-Decides}
use Rattle.std.specs.Prelude.{codes, filter, if◌then◌else◌}
use Rattle.std.specs.List.{slice_split, onto_first, fold}
use Rattle.std.specs.Str.{bytes_eq}
use Rattle.std.specs.Str.Lines.{lines, lines_of_parts}
use Rattle.memchr.specs.Find.{OccursAt}
use Rattle.vg_scan.specs.Lines.{Line, words, is_blank}
use Rattle.vg_scan.specs.declared.name.NodeName.{NodeName}
use Rattle.spef_file.specs.Files.{File}
use Rattle.spef_nodes.specs.Members.{with_node}
use Rattle.spef_net.specs.declared.part.Part.{Part}
use Rattle.spef_net.specs.declared.part.Part.TheVariants.{Nowhere, Conns, Caps, Ress, Inducs}
use Rattle.spef_net.specs.Lines.{head_of}
use Rattle.spef_net.specs.Statements.{Opens, statement_in, statement_or_opens, statement_of, statement_of_words, statements_from}
use Rattle.spef_net.specs.Rows.{connected_of}
use Rattle.spef_net.specs.Connections.{is_conns}
use Rattle.spef_net.proofs.HeadLemmas.{gathers_passed}
use Rattle.spef_net.proofs.WordLemmas.{gathers_head}
use Rattle.spef_net.proofs.LineLemmas.{gather_more, none_left}

-- a text stands in another
abbrev Within : List ℕ → List ℕ → Type 0
Within part text = (k : ℕ) × OccursAt text part k

abbrev Each : (List ℕ → Type 0) → List (List ℕ) → Type 0
Each P [] = Unit {0}
Each P (x ∷ xs) = P x × Each P xs

each_more : (P Q : List ℕ → Type 0) → ((x : List ℕ) → P x → Q x) → (xs : List (List ℕ)) → Each P xs → Each Q xs
each_more P Q f [] h = tt
each_more P Q f (x ∷ xs) h = (f x h.0, each_more P Q f xs h.1)

later : (b : ℕ) (text part : List ℕ) → Within part text → Within part (b ∷ text)
later b text part (k, at) = (
  suc k,
  record {
    fits = omega (arith, at.fits);
    reads = λ j low. ap (λ n. get_or (b ∷ text) n 0) (let e : suc k + j ≡ suc (k + j) = omega arith in e) ∙ at.reads j low;
  },
)

begins_more : (b : ℕ) (text part : List ℕ) → OccursAt text part 0 → OccursAt (b ∷ text) (b ∷ part) 0
begins_more b text part at = record {
  fits = omega (arith, at.fits);
  reads = λ j low. reads_more j low;
}
  where
    reads_more : (j : ℕ) → j < suc (length part) → get_or (b ∷ text) (0 + j) 0 ≡ get_or (b ∷ part) j 0
    reads_more zero low = refl
    reads_more (suc j) low =
        ap (λ n. get_or (b ∷ text) n 0) (let e : 0 + suc j ≡ suc (0 + j) = omega arith in e) ∙ at.reads j (omega (arith, low))

begins_none : (text : List ℕ) → OccursAt text [] 0
begins_none text = record { fits = omega arith; reads = λ j low. absurd (omega (arith, low)) }

-- the first part of a text begins it, and the others stand in it
pub record AreParts (text : List ℕ) (parts : List (List ℕ)) : Type 0 where
  pub first : List ℕ
  pub rest : List (List ℕ)
  pub are : parts ≡ first ∷ rest
  pub begins : OccursAt text first 0
  pub within : Each (λ part. Within part text) rest

parts_if : (c : Bool) (b : ℕ) (text : List ℕ) (parts : List (List ℕ)) → AreParts text parts → AreParts (b ∷ text) (cond c ([] ∷ parts) (onto_first b parts))
parts_if true b text parts s = record {
  first = [];
  rest = parts;
  are = refl;
  begins = begins_none (b ∷ text);
  within = subst (Each (λ part. Within part (b ∷ text))) (sym s.are)
      (later b text s.first (0, s.begins), each_more (λ part. Within part text) (λ part. Within part (b ∷ text)) (later b text) s.rest s.within);
}
parts_if false b text parts s = record {
  first = b ∷ s.first;
  rest = s.rest;
  are = ap (onto_first b) s.are;
  begins = begins_more b text s.first s.begins;
  within = each_more (λ part. Within part text) (λ part. Within part (b ∷ text)) (later b text) s.rest s.within;
}

parts_stand : (p : ℕ → Bool) (text : List ℕ) → AreParts text (slice_split p text)
parts_stand p [] = record { first = []; rest = []; are = refl; begins = begins_none []; within = tt }
parts_stand p (b ∷ bs) = parts_if (p b) b bs (slice_split p bs) (parts_stand p bs)

parts_within : (p : ℕ → Bool) (text : List ℕ) → Each (λ part. Within part text) (slice_split p text)
parts_within p text = let s = parts_stand p text in subst (Each (λ part. Within part text)) (sym s.are) ((0, s.begins), s.within)

kept_if : (c : Bool) (P : List ℕ → Type 0) (x : List ℕ) (xs : List (List ℕ)) → P x → Each P xs → Each P (cond c (x ∷ xs) xs)
kept_if true P x xs h k = (h, k)
kept_if false P x xs h k = k

kept : (P : List ℕ → Type 0) (q : List ℕ → Bool) (xs : List (List ℕ)) → Each P xs → Each P (filter q xs)
kept P q [] h = tt
kept P q (x ∷ xs) h = kept_if (q x) P x (filter q xs) h.0 (kept P q xs h.1)

words_within : (line : List ℕ) → Each (λ word. Within word line) (words line)
unfolding words
words_within line = kept (λ word. Within word line) (λ w. nat_lt 0 (length w)) (slice_split is_blank line) (parts_within is_blank line)

-- a line without its carriage return
shorter : (n : ℕ) (text part : List ℕ) → Within part text → Within (take n part) text
shorter n text part (k, at) =
    let less : length (take n part) ≤ length part = omega (arith, length-take n part, clamps) in
    (k, record { fits = omega (arith, at.fits, less); reads = λ j low. at.reads j (omega (arith, low, less)) ∙ sym (get_or-taken n part j low) })
  where
    get_or-taken : (n : ℕ) (xs : List ℕ) (i : ℕ) → i < length (take n xs) → get_or (take n xs) i 0 ≡ get_or xs i 0
    get_or-taken zero xs i h = absurd (omega (arith, h))
    get_or-taken (suc n) [] i h = refl
    get_or-taken (suc n) (x ∷ xs) zero h = refl
    get_or-taken (suc n) (x ∷ xs) (suc i) h = get_or-taken n xs i (omega (arith, h))

stripped_if : (c : Bool) (n : ℕ) (text part : List ℕ) → Within part text → Within (if c then take n part else part) text
stripped_if true n text part h = shorter n text part h
stripped_if false n text part h = h

last_if : (c : Bool) (P : List ℕ → Type 0) (x : List ℕ) → P x → Each P (if c then [] else x ∷ [])
last_if true P x h = tt
last_if false P x h = (h, tt)

lines_in : (text : List ℕ) (parts : List (List ℕ)) → Each (λ part. Within part text) parts → Each (λ line. Within line text) (lines_of_parts parts)
lines_in text [] h = tt
lines_in text (x ∷ []) h = last_if (eqb (length x) 0) (λ line. Within line text) x h.0
lines_in text (x ∷ y ∷ more) h = (stripped_if (eqb (get_or x (length x - 1) 0) 13) (length x - 1) text x h.0, lines_in text (y ∷ more) h.1)

lines_within : (text : List ℕ) → Each (λ line. Within line text) (lines text)
lines_within text = lines_in text (slice_split (λ b. eqb b 10) text) (parts_within (λ b. eqb b 10) text)

through : (text line word : List ℕ) → Within line text → Within word line → Within word text
through text line word (k, at) (i, in_line) = (
  k + i,
  record {
    fits = omega (arith, at.fits, in_line.fits);
    reads = λ j low.
        ap (λ n. get_or text n 0) (let e : k + i + j ≡ k + (i + j) = omega arith in e)
        ∙ at.reads (i + j) (omega (arith, low, in_line.fits)) ∙ in_line.reads j low;
  },
)

-- a head of connections is the word `*CONN`
named_conns : (a b c d : Bool) → (if a then Some Conns else (if b then Some Caps else (if c then Some Ress else (if d then Some Inducs else None)))) ≡ Some Conns → a ≡ true
named_conns true b c d e = refl
named_conns false true c d e = absurd (let p : Caps ≡ Conns = cc in let q : is_conns Caps ≡ is_conns Conns = ap is_conns p in cc)
named_conns false false true d e = absurd (let p : Ress ≡ Conns = cc in let q : is_conns Ress ≡ is_conns Conns = ap is_conns p in cc)
named_conns false false false true e = absurd (let p : Inducs ≡ Conns = cc in let q : is_conns Inducs ≡ is_conns Conns = ap is_conns p in cc)
named_conns false false false false e = absurd (cc)

head_within : (text : List ℕ) (ws : Line) → Each (λ word. Within word text) ws → head_of ws ≡ Some Conns → Within (codes "*CONN") text
head_within text [] h e = absurd (cc)
head_within text (w ∷ v ∷ ws) h e = absurd (cc)
head_within text (w ∷ []) h e =
    let is : bytes_eq w (codes "*CONN") ≡ true = named_conns (bytes_eq w (codes "*CONN")) (bytes_eq w (codes "*CAP")) (bytes_eq w (codes "*RES")) (bytes_eq w (codes "*INDUC")) e in
    subst (λ word. Within word text) ((bytes_eq-Decides w (codes "*CONN")).0 is) h.0

opens_part : (file : File) (part opened : Part) (line : List ℕ) (ws : Line) → head_of ws ≡ Some opened → statement_of_words file part line ws ≡ Ok (Opens opened)
unfolding statement_of_words
opens_part file part opened line [] e = absurd (cc)
opens_part file part opened line (w ∷ ws) e = ap (λ o. statement_or_opens o (statement_in part file line (w ∷ ws))) e

no_conns : (part : Part) → (part ≡ Conns → ⊥) → is_conns part ≡ false
no_conns Nowhere h = refl
no_conns Conns h = absurd (h refl)
no_conns Caps h = refl
no_conns Ress h = refl
no_conns Inducs h = refl

pass_line : (file : File) (part : Part) (line : List ℕ) (others : List (List ℕ)) (nodes : List NodeName) (o : Option Part) → head_of (words line) ≡ o → is_conns part ≡ false
    → (head_of (words line) ≡ Some Conns → ⊥)
    → ((next : Part) → is_conns next ≡ false → nodes ≡ fold with_node nodes (connected_of (statements_from file next others)))
    → nodes ≡ fold with_node nodes (connected_of (statements_from file part (line ∷ others)))
pass_line file part line others nodes None e n h rest =
    let g = gathers_passed file part line nodes n e in
    rest part n ∙ gather_more file part part line others nodes nodes g.0 g.1
pass_line file part line others nodes (Some opened) e n h rest =
    let g = gathers_head nodes part opened (statement_of file part line) (opens_part file part opened line (words line) e) in
    let other : is_conns opened ≡ false = no_conns opened (λ same. h (e ∙ ap Some same)) in
    rest opened other ∙ gather_more file part opened line others nodes nodes g.0 g.1

pass_lines : (file : File) (part : Part) (ls : List (List ℕ)) (nodes : List NodeName) → is_conns part ≡ false → Each (λ line. head_of (words line) ≡ Some Conns → ⊥) ls
    → nodes ≡ fold with_node nodes (connected_of (statements_from file part ls))
pass_lines file part [] nodes n h = ap (λ ss. fold with_node nodes (connected_of ss)) (sym (none_left file part))
pass_lines file part (line ∷ others) nodes n h =
    pass_line file part line others nodes (head_of (words line)) refl n h.0 (λ next k. pass_lines file next others nodes k h.1)

-- lines without the word `*CONN` add no connections
pub passes : (file : File) (part : Part) (text : List ℕ) (nodes : List NodeName) → is_conns part ≡ false → ((k : ℕ) → OccursAt text (codes "*CONN") k → ⊥)
    → nodes ≡ fold with_node nodes (connected_of (statements_from file part (lines text)))
passes file part text nodes n none =
    pass_lines file part (lines text) nodes n
    (each_more (λ line. Within line text) (λ line. head_of (words line) ≡ Some Conns → ⊥)
    (λ line there e. let (k, at) = through text line (codes "*CONN") there (head_within line (words line) (words_within line) e) in none k at) (lines text) (lines_within text))
