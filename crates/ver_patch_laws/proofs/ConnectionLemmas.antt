-- The tokens of connections.
use Rattle.std.proofs.Common.{◌≡◌, ℕ, suc, ◌+◌, ◌-◌, Bool, true, false, cond, List, [], ◌∷◌, ◌++◌, length, map, take, refl, sym, ap, ◌∙◌, arith, length-append, append_assoc}
use Rattle.std.specs.List.{prefix_len, take_while}
use Rattle.std.proofs.Math.Seq.{take-append_seam}
use Rattle.ver_syntax.specs.declared.row.Place.TheVariants.{Connection}
use Rattle.ver_syntax.specs.declared.row.Row.{Row}
use Rattle.ver_items.specs.Connections.{expression_in, expression_of}
use Rattle.ver_items.specs.Sections.{Section, stands_in}
use Rattle.ver_patch_text_laws.specs.Words.{words_of}
use Rattle.ver_patch_text_laws.proofs.RunLemmas.{EachRow}
use Rattle.ver_patch_text_laws.proofs.SectionLemmas.{Quits}
use Rattle.ver_patch_laws.proofs.ChangedLemmas.{InOne}
use Rattle.ver_patch_laws.proofs.WalkLemmas.{word_at}

pub while_more : (test : Row → Bool) (r : Row) (rows : List Row) (b : Bool) → test r ≡ b → take_while test (r ∷ rows) ≡ cond b (r ∷ take_while test rows) []
while_more test r rows true t = let e : 1 + prefix_len test rows ≡ suc (prefix_len test rows) = omega arith in rw t (ap (λ n. take n (r ∷ rows)) e)
while_more test r rows false t = rw t refl

-- tokens in a connection, and others
pub while_inside : (xs ys : List Row) → EachRow InOne xs → Quits ys → take_while (stands_in Connection) (xs ++ ys) ≡ xs
while_inside [] [] h q = refl
while_inside [] (y ∷ ys) h q = while_more (stands_in Connection) y ys false q
while_inside (x ∷ xs) ys h q = while_more (stands_in Connection) x (xs ++ ys) true h.0 ∙ ap (λ rs. x ∷ rs) (while_inside xs ys h.1 q)

pub expression_is : (front : List Row) (close : Row) → expression_in (front ++ close ∷ []) ≡ front
expression_is front close =
    ap (λ (n : ℕ). take n (front ++ close ∷ [])) (let n : length (front ++ close ∷ []) - 1 ≡ length front = omega (arith, length-append front (close ∷ [])) in n)
    ∙ take-append_seam front (close ∷ [])

-- a connection behind its first bracket
pub expression_front : (head bracket : Row) (front : List Row) (close : Row) (rest : List Row) → EachRow InOne front → InOne close → Quits rest
    → expression_of (record { head = head; body = bracket ∷ (front ++ close ∷ rest) }) ≡ front
expression_front head bracket front close rest h k q =
    ap expression_in (ap (take_while (stands_in Connection)) (sym (append_assoc front (close ∷ []) rest)) ∙ while_inside (front ++ close ∷ []) rest (each_end front h) q)
    ∙ expression_is front close
  where
    each_end : (xs : List Row) → EachRow InOne xs → EachRow InOne (xs ++ close ∷ [])
    each_end [] g = (k, tt)
    each_end (x ∷ xs) g = (g.0, each_end xs g.1)

-- the connection of a pin has the words of a net
abbrev pub HasNet : List ℕ → List ℕ → Section → Type 0
HasNet new net p = map (word_at new) (expression_of p) ≡ words_of net
