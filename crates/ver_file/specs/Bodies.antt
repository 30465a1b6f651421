-- What is read of the items of a text: for the functions between.
use Rattle.std.specs.Prelude.{◌≡◌, ◌++◌, ℕ, List, [], find, None, Option, option_map}
use Rattle.std.specs.List.{flat_map}
use Rattle.std.specs.Option.{option_or}
use Rattle.ver_text.specs.declared.kind.Kind.TheVariants.{EndModule}
use Rattle.ver_syntax.specs.declared.row.Row.{Row}
use Rattle.ver_syntax.specs.Grammar.{is}
use Rattle.ver_syntax.specs.Rows.{rows_of}
use Rattle.ver_items.specs.Sections.{Section}
use Rattle.ver_items.specs.SectionSteps.{rows_in}
use Rattle.ver_file.specs.declared.build.Body.{Body}
use Rattle.ver_file.specs.declared.scope.Scope.{Scope}
use Rattle.ver_file.specs.FirstFlaws.{AreFirsts, IsFlawless}
use Rattle.ver_file.specs.Firsts.{first_of, range_flaws_in, twice_in}
use Rattle.ver_file.specs.Flaws.{clashes, flaws_of, grammar_flaws, instance_flaws, syntax_flaws}
use Rattle.ver_file.specs.Netlists.{assigned_by, assigned_of, instances_by, instances_of}
use Rattle.ver_file.specs.Scopes.{HasIdentifiers, IsScope}

-- where the first `endmodule` among some tokens begins
abbrev pub end_in : List Row → Option ℕ
end_in rows = option_map (λ r. r.from) (find (λ r. is EndModule r.kind) rows)

-- the first of a text's flaws; and where it has none, its instances and the nets in its assignments
pub record IsBody (text : List ℕ) (body : Body) : Type 0 where
  pub firsts : AreFirsts text body.firsts
  pub instances : flaws_of text ≡ [] → body.instances ≡ instances_of text
  pub assigned : flaws_of text ≡ [] → body.assigned ≡ assigned_of text
  pub end : body.end ≡ end_in (rows_of text)

-- the same, together with the items that are left, where the instances before these have these names
pub record IsBodyWith (text : List ℕ) (left : List Section) (names : List (List ℕ)) (body : Body) : Type 0 where
  pub clash : first_of body.firsts.clash (range_flaws_in text left) ≡ first_of None (clashes text)
  pub twice : first_of body.firsts.twice (twice_in text names left) ≡ first_of None (instance_flaws text)
  pub grammar : first_of body.firsts.grammar (flat_map (syntax_flaws text) left) ≡ first_of None (grammar_flaws text)
  pub instances : IsFlawless body.firsts → instances_of text ≡ body.instances ++ flat_map (instances_by text) left
  pub assigned : IsFlawless body.firsts → assigned_of text ≡ body.assigned ++ flat_map (assigned_by text) left
  pub end : end_in (rows_of text) ≡ option_or body.end (end_in (rows_in left))

-- a text with its nets, no two of which have one name where none is found so far that have
pub record HasScope (scope : Scope) (body : Body) : Type 0 where
  pub table : HasIdentifiers scope
  pub distinct : body.firsts.clash ≡ None → IsScope scope
