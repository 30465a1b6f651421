-- What an item has besides instances.
use Rattle.std.proofs.Common.{◌≡◌, ℕ, List, [], ◌∷◌, drop, filter, flat_map, option_map, ap, ◌∙◌}
use Rattle.ver_syntax.specs.declared.row.Place.TheVariants.{Ports, Assignment}
use Rattle.ver_syntax.specs.declared.row.Row.{Row}
use Rattle.ver_items.specs.Declarations.{declared_in}
use Rattle.ver_items.specs.Others.{HasOthers}
use Rattle.ver_items.specs.Sections.{Section, is_name_in, sections}
use Rattle.ver_items.specs.SectionSteps.{section_in}
use Rattle.ver_file.specs.Bodies.{end_in}
use Rattle.ver_file.specs.Firsts.{declared_among, port_flaws_among}
use Rattle.ver_file.specs.Flaws.{assignment_flaws, port_flaws, ports_in, select_flaws}

-- what comes after the first token of an item
body_of : (rows : List Row) (item : Section) → section_in rows ≡ item ∷ [] → drop 1 rows ≡ item.body
body_of [] item e = absurd (cc)
body_of (r ∷ rows) item e = let same : (record { head = r; body = rows }) ≡ item = cc in ap (λ (s : Section). s.body) same

pub other_end : (rows others : List Row) → HasOthers rows others → end_in others ≡ end_in rows
other_end rows others h = ap (option_map (λ (r : Row). r.from)) h.end

-- what an item declares, its ports and what is assigned in it, as its others have them
pub other_declared : (text : List ℕ) (rows others : List Row) → HasOthers rows others → declared_among text others ≡ declared_among text rows
other_declared text rows others h = ap (flat_map (declared_in text)) h.declarations

module _ (text : List ℕ) (rows others after : List Row) (item : Section) (h : HasOthers rows others) (e : after ≡ drop 1 others) (one : section_in rows ≡ item ∷ []) where
  pub other_ports : port_flaws_among text after ≡ flat_map (port_flaws text) (ports_in item)
  other_ports = ap (port_flaws_among text) e ∙ ap (flat_map (port_flaws text)) (h.ports ∙ ap (filter (is_name_in Ports)) (body_of rows item one))

  pub other_assigned : sections (is_name_in Assignment) after ≡ sections (is_name_in Assignment) item.body
  other_assigned = ap (sections (is_name_in Assignment)) e ∙ h.assigned ∙ ap (sections (is_name_in Assignment)) (body_of rows item one)

  pub other_selects : flat_map (select_flaws text) (sections (is_name_in Assignment) after) ≡ assignment_flaws text item
  other_selects = ap (flat_map (select_flaws text)) other_assigned
