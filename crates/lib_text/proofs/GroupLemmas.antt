-- The groups of one name in a group, one after another.
use Rattle.std.proofs.Common.{◌≡◌, ℕ, true, false, List, [], ◌∷◌, length, refl, ◌∙◌, ap, arith}
use Rattle.lib_text.specs.declared.statement.Statement.{Statement}
use Rattle.lib_text.specs.declared.statement.Form.TheVariants.{Group as OfGroup}
use Rattle.lib_text.specs.Groups.{Group, groups_from, group_of, is_in}

pub groups_nil : (owner : Group) (name : List ℕ) (rest : List Statement) → length rest ≡ 0 → groups_from owner name rest ≡ []
unfolding groups_from
groups_nil owner name [] e = refl
groups_nil owner name (s ∷ rest) e = absurd (omega arith)

pub groups_yes : (owner : Group) (name : List ℕ) (rest : List Statement) (s : Statement) (after : List Statement) → rest ≡ s ∷ after → is_in owner OfGroup name s ≡ true
    → groups_from owner name rest ≡ group_of owner.text s after ∷ groups_from owner name after
unfolding groups_from
groups_yes owner name rest s after e t = ap (groups_from owner name) e ∙ rw t refl

pub groups_no : (owner : Group) (name : List ℕ) (rest : List Statement) (s : Statement) (after : List Statement) → rest ≡ s ∷ after → is_in owner OfGroup name s ≡ false
    → groups_from owner name rest ≡ groups_from owner name after
unfolding groups_from
groups_no owner name rest s after e t = ap (groups_from owner name) e ∙ rw t refl
