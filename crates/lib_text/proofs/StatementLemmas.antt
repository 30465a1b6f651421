-- Statements that come token by token.
use Rattle.std.proofs.Common.{◌≡◌, ℕ, List, [], ◌∷◌, ◌++◌, reverse, Option, refl, sym, ap, ◌∙◌, append_assoc}
use Rattle.std.proofs.lemmas.List.{append-nil}
use Rattle.lib_text.specs.declared.token.Token.{Token}
use Rattle.lib_text.specs.declared.token.Content.{Content}
use Rattle.lib_text.specs.declared.token.Found.{Found}
use Rattle.lib_text.specs.declared.statement.Statement.{Statement}
use Rattle.lib_text.specs.Found.{tokens_next, IsFirst}
use Rattle.lib_text.specs.Growing.{TakesToken}
use Rattle.lib_text.specs.Statements.{added, top, open_after, name_after, statements_from}

none : (groups : List ℕ) (name : ℕ) → statements_from groups name [] ≡ []
unfolding statements_from
none groups name = refl

by_token : (groups : List ℕ) (name : ℕ) (t : Token) (ts : List Token) → statements_from groups name (t ∷ ts)
    ≡ added t.kind (top groups) name t ts ++ statements_from (open_after t.kind groups name) (name_after t.kind t name) ts
unfolding statements_from
by_token groups name t ts = refl

pub grown : (text : List ℕ) (content : Option Content) (at : ℕ) (found : Found) (name name' : ℕ) (groups groups' : List ℕ) (old new all : List Statement)
    → IsFirst text content at found → TakesToken found.token (tokens_next text found.content found.at) name groups groups' old new
    → name' ≡ name_after found.token.kind found.token name
    → all ≡ old ++ statements_from (reverse groups) name (tokens_next text content at)
    → all ≡ new ++ statements_from (reverse groups') name' (tokens_next text found.content found.at)
grown text content at found name name' groups groups' old new all f t m e =
    let ts = tokens_next text found.content found.at in
    let some = added found.token.kind (top (reverse groups)) name found.token ts in
    e
    ∙ ap (λ xs. old ++ statements_from (reverse groups) name xs) f.first
    ∙ ap (λ xs. old ++ xs) (by_token (reverse groups) name found.token ts)
    ∙ sym (append_assoc old some (statements_from (open_after found.token.kind (reverse groups) name) (name_after found.token.kind found.token name) ts))
    ∙ rw (t.opened, m, t.grown) refl

pub all_grown : (groups : List ℕ) (name : ℕ) (old all : List Statement) (ts : List Token) → ts ≡ [] → all ≡ old ++ statements_from groups name ts → all ≡ old
all_grown groups name old all ts o e = e ∙ ap (λ xs. old ++ statements_from groups name xs) o ∙ rw (none groups name) (append-nil old)
