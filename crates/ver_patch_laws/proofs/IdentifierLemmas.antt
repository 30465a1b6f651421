-- The identifiers of a text can be written as they say: as simple ones, or with a backslash.
use Rattle.std.proofs.Common.{◌≡◌, ℕ, suc, ◌+◌, ◌-◌, ◌<◌, ◌==◌, Bool, true, false, cond, ◌&&◌, List, [], ◌∷◌, ◌++◌, length, take, Some, refl, sym, ap, ◌∙◌, subst, arith, ◌⊎◌, inl, inr}
use Rattle.std.specs.Prelude.{drop}
use Rattle.std.specs.List.{list_all, prefix_len}
use Rattle.std.proofs.Math.Seq.{drop-append_seam}
use Rattle.std.proofs.lemmas.Bool.Decides.{nat_tests}
use Rattle.vg_scan.specs.Lines.{part}
use Rattle.ver_text.specs.declared.kind.Kind.{Kind}
use Rattle.ver_text.specs.declared.kind.Kind.TheVariants.{Identifier}
use Rattle.ver_text.specs.declared.token.Token.{Token}
use Rattle.ver_text.specs.declared.token.TokenKind.TheVariants.{Word, Escaped, Stray}
use Rattle.ver_text.specs.Bytes.{is_letter, is_printable, is_word_byte}
use Rattle.ver_text.specs.Kinds.{grammar_kind, kind_in, word_kind}
use Rattle.ver_text.specs.Names.{is_escaped, is_identifier, is_simple}
use Rattle.ver_text.specs.Tokens.{directive_length, piece, token, tokens_of}
use Rattle.ver_syntax.specs.declared.row.Place.{Place}
use Rattle.ver_syntax.specs.declared.row.Place.TheVariants.{Start}
use Rattle.ver_syntax.specs.declared.row.Row.{Row}
use Rattle.ver_syntax.specs.Grammar.{is}
use Rattle.ver_syntax.specs.Rows.{place_after, rows_from, rows_of}
use Rattle.ver_items.specs.Sections.{bytes_at}
use Rattle.ver_patch_text_laws.proofs.PlaceLemmas.{letter_begins}
use Rattle.ver_patch_text_laws.proofs.ScanLemmas.{found}
use Rattle.ver_patch_text_laws.proofs.WordLemmas.{first_byte}
use Rattle.ver_patch_text_laws.proofs.KindLemmas.{identifier_token}
use Rattle.ver_patch_laws.proofs.RelinkedLemmas.{In}

-- ---- tokens

-- the token that a row is
pub record IsToken (text : List ℕ) (r : Row) : Type 0 where
  pub token : Token
  pub among : In token (tokens_of text)
  pub kind : r.kind ≡ kind_in text token
  pub bytes : bytes_at text r ≡ part text token.from token.to

row_from : (text : List ℕ) (p : Place) (ts : List Token) (r : Row) → In r (rows_from text p ts) → (t : Token) × In t ts × (r.kind ≡ kind_in text t)
    × (bytes_at text r ≡ part text t.from t.to)
unfolding rows_from
row_from text p [] r i = absurd i
row_from text p (t ∷ ts) r (inl e) = (t, inl refl, ap (λ (q : Row). q.kind) e, ap (bytes_at text) e)
row_from text p (t ∷ ts) r (inr i) = let (u, j, k, b) = row_from text (place_after p (kind_in text t)) ts r i in (u, inr j, k, b)

pub row_token : (text : List ℕ) (r : Row) → In r (rows_of text) → IsToken text r
row_token text r i =
    let (t, j, k, b) = row_from text Start (tokens_of text) r i in record { token = t; among = j; kind = k; bytes = b }

split_at : {X : Type 0} (xs : List X) (x : X) → In x xs → (front : List X) × (back : List X) × (xs ≡ front ++ x ∷ back)
split_at [] x i = absurd i
split_at (y ∷ ys) x (inl e) = ([], ys, ap (λ z. z ∷ ys) (sym e))
split_at (y ∷ ys) x (inr i) = let (f, b, e) = split_at ys x i in (y ∷ f, b, ap (λ zs. y ∷ zs) e)

-- the bytes of a token: the first, and those that belong to it
record HasBytes (text : List ℕ) (t : Token) : Type 0 where
  b : ℕ
  bs : List ℕ
  kind : (piece b bs).kind ≡ Some t.kind
  is : part text t.from t.to ≡ b ∷ take (piece b bs).more bs

token_bytes : (text : List ℕ) (t : Token) → In t (tokens_of text) → HasBytes text t
token_bytes text t i =
    let (front, back, e) = split_at (tokens_of text) t i in
    let f = found text (directive_length text) 0 front t back e in
    let count : t.to - t.from ≡ suc (piece f.b f.bs).more = omega (arith, f.to) in
    let from : t.from ≡ length f.us = omega (arith, f.from) in
    record {
      b = f.b;
      bs = f.bs;
      kind = f.kind;
      is =
          (λ j. take (count j) (drop (from j) (f.is j)))
          ∙ ap (take (suc (piece f.b f.bs).more)) (drop-append_seam f.us (f.b ∷ f.bs));
    }

-- ---- their bytes

passes_run : (p : ℕ → Bool) (bs : List ℕ) → list_all p (take (prefix_len p bs) bs) ≡ true
passes_run p [] = refl
passes_run p (b ∷ bs) = by_test (p b) refl (passes_run p bs)
  where
    by_test : (t : Bool) → p b ≡ t → list_all p (take (prefix_len p bs) bs) ≡ true → list_all p (take (cond t (1 + prefix_len p bs) 0) (b ∷ bs)) ≡ true
    by_test true e more =
        let n : 1 + prefix_len p bs ≡ suc (prefix_len p bs) = omega arith in
        ap (λ (k : ℕ). list_all p (take k (b ∷ bs))) n ∙ ap (λ t. t && list_all p (take (prefix_len p bs) bs)) e ∙ more
    by_test false e more = refl

some_run : (p : ℕ → Bool) (bs : List ℕ) → (prefix_len p bs == 0) ≡ false → 0 < length (take (prefix_len p bs) bs)
some_run p [] e = absurd (cc)
some_run p (b ∷ bs) e = by_test (p b) refl e
  where
    by_test : (t : Bool) → p b ≡ t → (cond t (1 + prefix_len p bs) 0 == 0) ≡ false → 0 < length (take (cond t (1 + prefix_len p bs) 0) (b ∷ bs))
    by_test true t f =
        let n : 1 + prefix_len p bs ≡ suc (prefix_len p bs) = omega arith in
        subst (λ (k : ℕ). 0 < length (take k (b ∷ bs))) (sym n) (omega arith)
    by_test false t f = absurd (cc)

-- bytes of an identifier: a simple one, or a backslash and bytes that are printed
pub data IsOwnName (bytes : List ℕ) : Type 0 where
  plain : is_escaped bytes ≡ false → is_simple bytes ≡ true → IsOwnName bytes
  escaped : (name : List ℕ) → bytes ≡ 92 ∷ name → 0 < length name → list_all is_printable name ≡ true → IsOwnName bytes

word_more : (b : ℕ) (bs : List ℕ) → is_letter b ≡ true → (piece b bs).more ≡ prefix_len is_word_byte bs
word_more b bs l = let k = (letter_begins b l).blank in rw (k, l) refl

word_name : (b : ℕ) (bs : List ℕ) → is_letter b ≡ true → word_kind (b ∷ take (piece b bs).more bs) ≡ Identifier → IsOwnName (b ∷ take (piece b bs).more bs)
word_name b bs l k =
    let other : (b == 92) ≡ false = grind (arith, nat_tests) in
    let run : list_all is_word_byte (take (piece b bs).more bs) ≡ true
    = ap (λ (n : ℕ). list_all is_word_byte (take n bs)) (word_more b bs l) ∙ passes_run is_word_byte bs in
    IsOwnName.plain other (λ i. (l i && run i) && is_identifier (k i))

escaped_name : (bs : List ℕ) → (piece 92 bs).kind ≡ Some Escaped → IsOwnName (92 ∷ take (piece 92 bs).more bs)
escaped_name bs k = by_test (prefix_len is_printable bs == 0) refl
  where
    by_test : (t : Bool) → (prefix_len is_printable bs == 0) ≡ t → IsOwnName (92 ∷ take (piece 92 bs).more bs)
    by_test true e = let none : (token Stray 0).kind ≡ Some Escaped = rw e at k in absurd (cc)
    by_test false e =
        let more : (piece 92 bs).more ≡ prefix_len is_printable bs = rw e refl in
        IsOwnName.escaped (take (piece 92 bs).more bs) refl (subst (λ (n : ℕ). 0 < length (take n bs)) (sym more) (some_run is_printable bs e))
        (ap (λ (n : ℕ). list_all is_printable (take n bs)) more ∙ passes_run is_printable bs)

is_kind : (k : Kind) → is Identifier k ≡ true → k ≡ Identifier
is_kind Identifier e = refl
is_kind k e = absurd (cc)

pub identifier_name : (text : List ℕ) (r : Row) → In r (rows_of text) → is Identifier r.kind ≡ true → IsOwnName (bytes_at text r)
identifier_name text r i e =
    let t = row_token text r i in
    let h = token_bytes text t.token t.among in
    let own : is Identifier (grammar_kind t.token.kind (part text t.token.from t.token.to)) ≡ true = ap (is Identifier) (sym t.kind) ∙ e in
    subst IsOwnName (sym (t.bytes ∙ h.is)) (by_kind h (identifier_token t.token.kind (part text t.token.from t.token.to) own) own)
  where
    by_kind : {t : Token} (h : HasBytes text t) → (t.kind ≡ Word) ⊎ (t.kind ≡ Escaped) → is Identifier (grammar_kind t.kind (part text t.from t.to)) ≡ true
        → IsOwnName (h.b ∷ take (piece h.b h.bs).more h.bs)
    by_kind {t} h (inl w) own =
        let letter = first_byte h.b h.bs Word (h.kind ∙ ap Some w) in
        word_name h.b h.bs letter (is_kind (word_kind (h.b ∷ take (piece h.b h.bs).more h.bs)) ((λ i. is Identifier (grammar_kind (sym w i) (sym h.is i))) ∙ own))
    by_kind {t} h (inr x) own =
        let slash : h.b ≡ 92 = first_byte h.b h.bs Escaped (h.kind ∙ ap Some x) in
        subst (λ (b : ℕ). IsOwnName (b ∷ take (piece b h.bs).more h.bs)) (sym slash)
        (escaped_name h.bs (ap (λ (b : ℕ). (piece b h.bs).kind) (sym slash) ∙ h.kind ∙ ap Some x))
