-- The text of a net, read again.
use Rattle.std.proofs.Common.{◌≡◌, ℕ, ◌+◌, ◌-◌, ◌<◌, ◌^◌, Bool, true, false, List, [], ◌∷◌, ◌++◌, Option, Some, None, refl, sym, ap, ◌∙◌, arith, length, take, drop, append_assoc, length-append}
use Rattle.std.specs.Prelude.{IfSome}
use Rattle.std.specs.Fmt.{decimal}
use Rattle.std.specs.List.{list_all}
use Rattle.std.proofs.lemmas.Bool.{and_parts}
use Rattle.std.proofs.lemmas.Bool.Decides.{nat_tests}
use Rattle.vg_num.specs.Number.{value_of}
use Rattle.vg_num.proofs.ReadingLemmas.{decimal_writes}
use Rattle.vg_scan.specs.Lines.{part}
use Rattle.ver_text.specs.declared.kind.Kind.TheVariants.{Identifier}
use Rattle.ver_text.specs.declared.token.TokenKind.TheVariants.{Escaped, Digits, Mark}
use Rattle.ver_text.specs.Bytes.{is_printable, is_word_byte, is_letter}
use Rattle.ver_text.specs.Kinds.{kind_in, word_kind}
use Rattle.std.specs.Prelude.{◌==◌}
use Rattle.std.proofs.lemmas.List.{drop_at, take_at}
use Rattle.ver_text.specs.declared.kind.Kind.{Kind}
use Rattle.ver_text.specs.Names.{is_simple, is_word, is_identifier, name_of, escaped}
use Rattle.ver_text.specs.Tokens.{tokens_from, begins}
use Rattle.ver_text.specs.Written.{begins_with}
use Rattle.ver_text.proofs.WrittenLemmas.{words_are_tokens, escaped_names_are_tokens, digits_are_tokens, marks_are_tokens, blanks_are_passed}
use Rattle.ver_net.specs.Texts.{identifier_text, select_text, text_of}
use Rattle.ver_net.specs.ReadAgain.{NetsAreTokens, NetsAreNamed, token_at, identifier_at, select_at, select_place}

-- ---- the tokens

-- a select begins with no byte of a word, nor does what follows a net
select_ends_word : (bit : Option ℕ) (rest : List ℕ) → begins_with is_word_byte rest ≡ false → begins_with is_word_byte (select_text bit ++ rest) ≡ false
select_ends_word None rest h = h
select_ends_word (Some bit) rest h = refl

identifier_is : (escaped : Bool) (at : ℕ) (name rest : List ℕ) → (escaped ≡ false → is_simple name ≡ true) → 0 < length name → (escaped ≡ true → list_all is_printable name ≡ true)
    → begins_with is_word_byte rest ≡ false
    → tokens_from 0 at (identifier_text escaped name ++ rest) ≡ identifier_at escaped at (length name) ∷ tokens_from 0 (at + length (identifier_text escaped name)) rest
identifier_is true at name rest plain some printable ends =
    ap (λ bs. tokens_from 0 at (92 ∷ bs)) (append_assoc name (32 ∷ []) rest)
    ∙ escaped_names_are_tokens at name rest some (printable refl)
    ∙ ap (λ ts. token_at Escaped at (1 + length name) ∷ ts)
    (blanks_are_passed (at + (1 + length name)) 32 rest refl
    ∙ ap (λ (k : ℕ). tokens_from 0 k rest) (let e : at + (1 + length name) + 1 ≡ at + length (escaped name) = omega (arith, length-append name (32 ∷ [])) in e))
identifier_is false at name rest plain some printable ends = words_are_tokens at name rest (and_parts (is_word name) (is_identifier (word_kind name)) (plain refl)).0 ends

select_is : (bit : Option ℕ) (at : ℕ) (rest : List ℕ) → IfSome bit (λ k. k < 2 ^ 32)
    → tokens_from 0 at (select_text bit ++ rest) ≡ select_at bit at ++ tokens_from 0 (at + length (select_text bit)) rest
select_is None at rest few = ap (λ (k : ℕ). tokens_from 0 k rest) (let e : at ≡ at + 0 = omega arith in e)
select_is (Some bit) at rest few =
    let w = decimal_writes bit (omega (arith, few)) in
    marks_are_tokens at 91 ((decimal bit ++ 93 ∷ []) ++ rest) refl refl
    ∙ ap (λ ts. token_at (Mark 91) at 1 ∷ ts)
    (ap (tokens_from 0 (at + 1)) (append_assoc (decimal bit) (93 ∷ []) rest)
    ∙ digits_are_tokens (at + 1) (decimal bit) (93 ∷ rest) w.some w.all refl refl
    ∙ ap (λ ts. token_at Digits (at + 1) (length (decimal bit)) ∷ ts)
    (marks_are_tokens (at + 1 + length (decimal bit)) 93 rest refl refl
    ∙ ap (λ (k : ℕ). token_at (Mark 93) (at + 1 + length (decimal bit)) 1 ∷ tokens_from 0 k rest)
    (let e : at + 1 + length (decimal bit) + 1 ≡ at + length (select_text (Some bit)) = omega (arith, length-append (decimal bit) (93 ∷ [])) in e)))

pub nets_are_tokens : NetsAreTokens
nets_are_tokens at net rest writable ends =
    ap (tokens_from 0 at) (append_assoc (identifier_text net.escaped net.base) (select_text net.bit) rest)
    ∙ identifier_is net.escaped at net.base (select_text net.bit ++ rest) writable.plain writable.some writable.printable (select_ends_word net.bit rest ends)
    ∙ ap (λ ts. identifier_at net.escaped at (length net.base) ∷ ts)
    (select_is net.bit (select_place net at) rest writable.few
    ∙ ap (λ (k : ℕ). select_at net.bit (select_place net at) ++ tokens_from 0 k rest)
    (let e : select_place net at + length (select_text net.bit) ≡ at + length (text_of net) = omega (arith, length-append (identifier_text net.escaped net.base) (select_text net.bit)) in e))

-- ---- the names

part_at : (before middle after : List ℕ) (from to : ℕ) → from ≡ length before → to ≡ from + length middle → part (before ++ middle ++ after) from to ≡ middle
part_at before middle after from to begins ends =
    let count : to - from ≡ length middle = omega arith in
    ap (λ (bs : List ℕ). take (to - from) (drop from bs)) (append_assoc before middle after)
    ∙ ap (take (to - from)) (drop_at before (middle ++ after) from (sym begins))
    ∙ take_at middle after (to - from) (sym count)

identifier_from : (kind : Kind) → is_identifier kind ≡ true → kind ≡ Identifier
identifier_from Identifier h = refl
identifier_from _ h = absurd (cc)

plain_name : (name : List ℕ) → is_word name ≡ true → name_of name ≡ name
plain_name [] h = absurd (cc)
plain_name (b ∷ bs) h =
    let letter = (and_parts (is_letter b) (list_all is_word_byte bs) h).0 in
    let other : (b == 92) ≡ false = grind (arith, nat_tests) in
    rw other refl

-- the bytes of an identifier's token, and what stands after it in the text of a net
bytes_of : Bool → List ℕ → List ℕ
bytes_of true name = 92 ∷ name
bytes_of false name = name

after_bytes : Bool → List ℕ → List ℕ
after_bytes true rest = 32 ∷ rest
after_bytes false rest = rest

around_identifier : (escaped : Bool) (before name select rest : List ℕ)
    → before ++ (identifier_text escaped name ++ select) ++ rest ≡ before ++ bytes_of escaped name ++ after_bytes escaped (select ++ rest)
unfolding bytes_of after_bytes
around_identifier true before name select rest = simp append_assoc
around_identifier false before name select rest = simp append_assoc

identifier_bytes : (escaped : Bool) (before name select rest : List ℕ)
    → part (before ++ (identifier_text escaped name ++ select) ++ rest) (length before) (identifier_at escaped (length before) (length name)).to ≡ bytes_of escaped name
unfolding bytes_of
identifier_bytes escape before name select rest =
    ap (λ (bs : List ℕ). part bs (length before) (identifier_at escape (length before) (length name)).to) (around_identifier escape before name select rest)
    ∙ part_at before (bytes_of escape name) (after_bytes escape (select ++ rest)) (length before) (identifier_at escape (length before) (length name)).to refl (ends escape)
  where
    ends : (e : Bool) → (identifier_at e (length before) (length name)).to ≡ length before + length (bytes_of e name)
    ends true = omega arith
    ends false = refl

kind_is : (escaped : Bool) (before name select rest : List ℕ) → (escaped ≡ false → is_simple name ≡ true)
    → kind_in (before ++ (identifier_text escaped name ++ select) ++ rest) (identifier_at escaped (length before) (length name)) ≡ Identifier
unfolding bytes_of
kind_is true before name select rest plain = refl
kind_is false before name select rest plain =
    ap word_kind (identifier_bytes false before name select rest)
    ∙ identifier_from (word_kind name) (and_parts (is_word name) (is_identifier (word_kind name)) (plain refl)).1

name_is : (escaped : Bool) (name : List ℕ) → (escaped ≡ false → is_simple name ≡ true) → name_of (bytes_of escaped name) ≡ name
unfolding bytes_of
name_is true name plain = refl
name_is false name plain = plain_name name (and_parts (is_word name) (is_identifier (word_kind name)) (plain refl)).0

number_is : (bit : Option ℕ) (before identifier rest : List ℕ) (place : ℕ) → place ≡ length before + length identifier → IfSome bit (λ k. k < 2 ^ 32)
    → IfSome bit (λ k. value_of (part (before ++ (identifier ++ select_text bit) ++ rest) (place + 1) (place + 1 + length (decimal k))) ≡ k)
number_is None before identifier rest place is few = few
number_is (Some bit) before identifier rest place is few =
    let w = decimal_writes bit (omega (arith, few)) in
    ap (λ (bs : List ℕ). value_of (part bs (place + 1) (place + 1 + length (decimal bit)))) (regroup before identifier (decimal bit) rest)
    ∙ ap value_of
    (part_at (before ++ identifier ++ 91 ∷ []) (decimal bit) (93 ∷ rest) (place + 1) (place + 1 + length (decimal bit))
    (omega (arith, length-append (before ++ identifier) (91 ∷ []), length-append before identifier)) refl)
    ∙ w.value
  where
    regroup : (before identifier digits rest : List ℕ)
        → before ++ (identifier ++ (91 ∷ digits ++ 93 ∷ [])) ++ rest ≡ (before ++ identifier ++ 91 ∷ []) ++ digits ++ 93 ∷ rest
    regroup before identifier digits rest = simp append_assoc

pub nets_are_named : NetsAreNamed
nets_are_named before rest net writable = record {
  kind = kind_is net.escaped before net.base (select_text net.bit) rest writable.plain;
  name = ap name_of (identifier_bytes net.escaped before net.base (select_text net.bit) rest) ∙ name_is net.escaped net.base writable.plain;
  number = number_is net.bit before (identifier_text net.escaped net.base) rest (select_place net (length before)) refl writable.few;
}
