-- Instances stand behind the head of their module and before its end.
use Rattle.std.proofs.Common.{◌≡◌, ℕ, ◌≤◌, Bool, true, false, ◌||◌, cond, List, [], ◌∷◌, ◌++◌, map, length, Some, refl, sym, ap, ◌∙◌, subst, arith, ◌⊎◌, inl, inr}
use Rattle.std.specs.Prelude.{find, option_map, unwrap_or}
use Rattle.std.specs.List.{before_first, flat_map}
use Rattle.std.proofs.lemmas.List.{append-nil}
use Rattle.std.proofs.lemmas.Bool.{and_right}
use Rattle.ver_text.specs.declared.kind.Kind.{Kind}
use Rattle.ver_text.specs.declared.kind.Kind.TheVariants.{Close, EndModule, Module, Open, Semicolon}
use Rattle.ver_syntax.specs.declared.row.Place.{Place}
use Rattle.ver_syntax.specs.declared.row.Place.TheVariants.{Head, Instances, Ports, Start}
use Rattle.ver_syntax.specs.declared.row.Row.{Row}
use Rattle.ver_syntax.specs.Grammar.{is}
use Rattle.ver_syntax.specs.Rows.{kinds_in, place_after, rows_of}
use Rattle.ver_items.specs.Sections.{Section, is_identifier, is_name_in, is_place, section_before, sections, stands_in}
use Rattle.ver_file.specs.Netlists.{end_at, head_end, instance_of, instances_by, instances_of}
use Rattle.ver_patch.proofs.FrameLemmas.{Follow, IsFramed}
use Rattle.ver_patch.proofs.PinLemmas.{InstanceStands, items_stand}
use Rattle.ver_patch.proofs.ShapeLemmas.{has_end}
use Rattle.ver_patch.proofs.StandLemmas.{Chain, SectionStands, Stand, before_others, chain_from, cut, no_sections, sections_by, sections_fall, stand_front, stand_within}

-- ---- the head

-- a token of the head stands in it or in its list of ports
abbrev IsOfHead : Place → Type 0
IsOfHead place = (place ≡ Head) ⊎ (place ≡ Ports)

after_head : (k : Kind) → is Semicolon k ≡ false → IsOfHead (place_after Head k)
after_head Semicolon e = absurd (cc)
after_head Open e = inr refl
after_head k e = inl refl

after_ports : (k : Kind) → is Semicolon k ≡ false → IsOfHead (place_after Ports k)
after_ports Semicolon e = absurd (cc)
after_ports Close e = inl refl
after_ports k e = inr refl

head_goes_on : (place : Place) (k : Kind) → IsOfHead place → is Semicolon k ≡ false → IsOfHead (place_after place k)
head_goes_on place k (inl e) fails = subst (λ p. IsOfHead (place_after p k)) (sym e) (after_head k fails)
head_goes_on place k (inr e) fails = subst (λ p. IsOfHead (place_after p k)) (sym e) (after_ports k fails)

a_semicolon : (k : Kind) → is Semicolon k ≡ true → k ≡ Semicolon
a_semicolon Semicolon e = refl
a_semicolon k e = absurd (cc)

head_ends : (place : Place) (k : Kind) → IsOfHead place → is Semicolon k ≡ true → place_after place k ≡ Start
head_ends place k (inl e) passes = λ i. place_after (e i) (a_semicolon k passes i)
head_ends place k (inr e) passes = λ i. place_after (e i) (a_semicolon k passes i)

no_start : (r : Row) → IsOfHead r.place → stands_in Start r ≡ false
no_start r (inl e) = ap (is_place Start) e
no_start r (inr e) = ap (is_place Start) e

no_instance : (r : Row) → IsOfHead r.place → is_name_in Instances r ≡ false
no_instance r (inl e) = and_right (is_identifier r) (stands_in Instances r) (ap (is_place Instances) e)
no_instance r (inr e) = and_right (is_identifier r) (stands_in Instances r) (ap (is_place Instances) e)

-- where the first `;` ends
abbrev mark_end : List Row → ℕ
mark_end rows = unwrap_or (option_map (λ r. r.to) (find (λ r. is Semicolon r.kind) rows)) 0

find_by : (test : Row → Bool) (r : Row) (rows : List Row) (b : Bool) → test r ≡ b → find test (r ∷ rows) ≡ cond b (Some r) (find test rows)
find_by test r rows b t = ap (λ c. cond c (Some r) (find test rows)) t

-- the tokens of a head name no instance, and the items after it stand behind its `;`
record HasHead (to : ℕ) (rows : List Row) : Type 0 where
  none : sections (is_name_in Instances) (before_first (stands_in Start) rows) ≡ []
  items : Chain SectionStands (mark_end rows) to (sections (stands_in Start) rows)

-- no token of an item stands before the first that begins one
nothing_before : (rows : List Row) → Follow Start rows → before_first (stands_in Start) rows ≡ []
nothing_before [] h = refl
nothing_before (r ∷ rows) h = before_others (stands_in Start) r rows true (ap (is_place Start) h.0)

-- one token more of the head
head_more : (r : Row) (rows : List Row) → IsOfHead r.place → sections (is_name_in Instances) (before_first (stands_in Start) rows) ≡ []
    → sections (is_name_in Instances) (before_first (stands_in Start) (r ∷ rows)) ≡ []
head_more r rows own none =
    ap (sections (is_name_in Instances)) (before_others (stands_in Start) r rows false (no_start r own))
    ∙ sections_by (is_name_in Instances) r (before_first (stands_in Start) rows) false (no_instance r own)
    ∙ none

items_more : (r : Row) (rows : List Row) (from to : ℕ) → IsOfHead r.place → Chain SectionStands from to (sections (stands_in Start) rows)
    → Chain SectionStands from to (sections (stands_in Start) (r ∷ rows))
items_more r rows from to own h = subst (Chain SectionStands from to) (sym (sections_by (stands_in Start) r rows false (no_start r own))) h

has_head : (rows : List Row) (place : Place) (from to : ℕ) → IsOfHead place → Follow place rows → Stand from to rows → HasHead to rows
has_head [] place from to own follow h = record {
  none = no_sections (is_name_in Instances);
  items = subst (Chain SectionStands 0 to) (sym (no_sections (stands_in Start))) (let low : 0 ≤ to = omega arith in low);
}
has_head (r ∷ rows) place from to own follow h =
    by_test (is Semicolon r.kind) refl (λ e. has_head rows (place_after place r.kind) r.to to (head_goes_on place r.kind own e) follow.1 h.2)
  where
    here : IsOfHead r.place
    here = subst IsOfHead (sym follow.0) own

    mark_is : (b : Bool) → is Semicolon r.kind ≡ b
        → unwrap_or (option_map (λ (q : Row). q.to) (cond b (Some r) (find (λ q. is Semicolon q.kind) rows))) 0 ≡ mark_end (r ∷ rows)
    mark_is b e = sym (ap (λ o. unwrap_or (option_map (λ (q : Row). q.to) o) 0) (find_by (λ q. is Semicolon q.kind) r rows b e))

    ended : is Semicolon r.kind ≡ true → HasHead to (r ∷ rows)
    ended e =
        let k = cut (stands_in Start) rows r.to to h.2 in
        let next : Follow Start rows = subst (λ p. Follow p rows) (head_ends place r.kind own e) follow.1 in
        record {
          none = head_more r rows here (ap (sections (is_name_in Instances)) (nothing_before rows next) ∙ no_sections (is_name_in Instances));
          items =
              items_more r rows (mark_end (r ∷ rows)) to here
              (subst (λ n. Chain SectionStands n to (sections (stands_in Start) rows)) (mark_is true e)
              (chain_from SectionStands sections_fall (sections (stands_in Start) rows) r.to k.mid to
              (stand_within (before_first (stands_in Start) rows) r.to k.mid k.front) k.rest));
        }

    going : is Semicolon r.kind ≡ false → HasHead to rows → HasHead to (r ∷ rows)
    going e k = record {
      none = head_more r rows here k.none;
      items =
          items_more r rows (mark_end (r ∷ rows)) to here
          (subst (λ n. Chain SectionStands n to (sections (stands_in Start) rows)) (mark_is false e) k.items);
    }

    by_test : (b : Bool) → is Semicolon r.kind ≡ b → (is Semicolon r.kind ≡ false → HasHead to rows) → HasHead to (r ∷ rows)
    by_test true e others = ended e
    by_test false e others = going e (others e)

-- ---- the end

find_front : (test : Row → Bool) (rows : List Row) (last : Row) → test last ≡ false → find test (rows ++ last ∷ []) ≡ find test rows
find_front test [] last fails = find_by test last [] false fails
find_front test (r ∷ rows) last fails = ap (λ o. cond (test r) (Some r) o) (find_front test rows last fails)

find_last : (rows : List Row) (last : Row) → has_end (kinds_in rows) ≡ false → is EndModule last.kind ≡ true
    → find (λ r. is EndModule r.kind) (rows ++ last ∷ []) ≡ Some last
find_last [] last none passes = find_by (λ r. is EndModule r.kind) last [] true passes
find_last (r ∷ rows) last none passes = by_test (is EndModule r.kind) refl none (λ f. find_last rows last f passes)
  where
    by_test : (b : Bool) → is EndModule r.kind ≡ b → (b || has_end (kinds_in rows)) ≡ false
        → (has_end (kinds_in rows) ≡ false → find (λ q. is EndModule q.kind) (rows ++ last ∷ []) ≡ Some last)
        → find (λ q. is EndModule q.kind) (r ∷ (rows ++ last ∷ [])) ≡ Some last
    by_test true e f others = absurd (cc)
    by_test false e f others = find_by (λ q. is EndModule q.kind) r (rows ++ last ∷ []) false e ∙ others f

-- a last token that begins an item is one alone
before_last : (rows : List Row) (last : Row) → stands_in Start last ≡ true → before_first (stands_in Start) (rows ++ last ∷ []) ≡ before_first (stands_in Start) rows
before_last [] last passes = before_others (stands_in Start) last [] true passes
before_last (r ∷ rows) last passes =
    before_others (stands_in Start) r (rows ++ last ∷ []) (stands_in Start r) refl
    ∙ ap (λ rs. cond (stands_in Start r) [] (r ∷ rs)) (before_last rows last passes)
    ∙ sym (before_others (stands_in Start) r rows (stands_in Start r) refl)

abbrev alone : Row → Section
alone r = record { head = r; body = [] }

sections_last : (rows : List Row) (last : Row) → stands_in Start last ≡ true
    → sections (stands_in Start) (rows ++ last ∷ []) ≡ sections (stands_in Start) rows ++ alone last ∷ []
sections_last [] last passes =
    sections_by (stands_in Start) last [] true passes
    ∙ (λ i. alone last ∷ no_sections (stands_in Start) i)
    ∙ sym (ap (λ ss. ss ++ alone last ∷ []) (no_sections (stands_in Start)))
sections_last (r ∷ rows) last passes = by_test (stands_in Start r) refl (sections_last rows last passes)
  where
    by_test : (b : Bool) → stands_in Start r ≡ b → sections (stands_in Start) (rows ++ last ∷ []) ≡ sections (stands_in Start) rows ++ alone last ∷ []
        → sections (stands_in Start) (r ∷ (rows ++ last ∷ [])) ≡ sections (stands_in Start) (r ∷ rows) ++ alone last ∷ []
    by_test true e rest =
        sections_by (stands_in Start) r (rows ++ last ∷ []) true e
        ∙ (λ i. record { head = r; body = before_last rows last passes i } ∷ rest i)
        ∙ sym (ap (λ ss. ss ++ alone last ∷ []) (sections_by (stands_in Start) r rows true e))
    by_test false e rest =
        sections_by (stands_in Start) r (rows ++ last ∷ []) false e
        ∙ rest
        ∙ sym (ap (λ ss. ss ++ alone last ∷ []) (sections_by (stands_in Start) r rows false e))

-- ---- instances

no_instances : (text : List ℕ) (item : Section) → sections (is_name_in Instances) item.body ≡ [] → instances_by text item ≡ []
no_instances text item e = ap (map (instance_of text item.head)) e

flat_last : (text : List ℕ) (items : List Section) (item : Section) → instances_by text item ≡ []
    → flat_map (instances_by text) (items ++ item ∷ []) ≡ flat_map (instances_by text) items
flat_last text [] item e = append-nil (instances_by text item) ∙ e
flat_last text (i ∷ items) item e = ap (λ rest. instances_by text i ++ rest) (flat_last text items item e)

-- no instance stands in the head, and none in what `endmodule` begins
instances_between : (text : List ℕ) (first : Row) (more : List Row) (last : Row) → rows_of text ≡ first ∷ (more ++ last ∷ []) → stands_in Start first ≡ true
    → stands_in Start last ≡ true → sections (is_name_in Instances) (before_first (stands_in Start) more) ≡ []
    → instances_of text ≡ flat_map (instances_by text) (sections (stands_in Start) more)
instances_between text first more last rows_are starts ends none =
    let head = section_before (stands_in Start) first (more ++ last ∷ []) in
    let no_first : instances_by text head ≡ []
    = no_instances text head (ap (sections (is_name_in Instances)) (before_last more last ends) ∙ none) in
    ap (λ rows. flat_map (instances_by text) (sections (stands_in Start) rows)) rows_are
    ∙ ap (flat_map (instances_by text)) (sections_by (stands_in Start) first (more ++ last ∷ []) true starts)
    ∙ ap (λ front. front ++ flat_map (instances_by text) (sections (stands_in Start) (more ++ last ∷ []))) no_first
    ∙ ap (flat_map (instances_by text)) (sections_last more last ends)
    ∙ flat_last text (sections (stands_in Start) more) (alone last)
    (no_instances text (alone last) (no_sections (is_name_in Instances)))

-- the connections of a text stand behind its head and before its end
pub record ConnectionsStand (text : List ℕ) : Type 0 where
  pub instances : Chain InstanceStands (head_end text) (end_at text) (instances_of text)
  pub within : end_at text ≤ length text

head_end_is : (text : List ℕ) (first : Row) (more : List Row) (last : Row) → rows_of text ≡ first ∷ (more ++ last ∷ []) → first.kind ≡ Module → last.kind ≡ EndModule
    → head_end text ≡ mark_end more
head_end_is text first more last rows is_module is_end =
    ap mark_end rows
    ∙ ap (λ o. unwrap_or (option_map (λ (r : Row). r.to) o) 0)
    (find_by (λ r. is Semicolon r.kind) first (more ++ last ∷ []) false (ap (is Semicolon) is_module)
    ∙ find_front (λ r. is Semicolon r.kind) more last (ap (is Semicolon) is_end))

end_at_is : (text : List ℕ) (first : Row) (more : List Row) (last : Row) → rows_of text ≡ first ∷ (more ++ last ∷ []) → first.kind ≡ Module → last.kind ≡ EndModule
    → has_end (kinds_in more) ≡ false → end_at text ≡ last.from
end_at_is text first more last rows_are is_module is_end none =
    ap (λ rows. unwrap_or (option_map (λ (r : Row). r.from) (find (λ r. is EndModule r.kind) rows)) 0) rows_are
    ∙ ap (λ o. unwrap_or (option_map (λ (r : Row). r.from) o) 0)
    (find_by (λ r. is EndModule r.kind) first (more ++ last ∷ []) false (ap (is EndModule) is_module) ∙ find_last more last none (ap (is EndModule) is_end))

pub connections_stand : (text : List ℕ) → IsFramed text → ConnectionsStand text
connections_stand text f =
    let (front, high) = stand_front (f.first ∷ f.more) f.last 0 (length text) f.stand in
    let head = has_head f.more Head f.first.to f.last.from (inl refl) f.follow front.2 in
    let starts : stands_in Start f.first ≡ true = ap (is_place Start) f.begins in
    let ends : stands_in Start f.last ≡ true = ap (is_place Start) f.at_start in
    let end = end_at_is text f.first f.more f.last f.is f.is_module f.is_end f.no_end in
    let behind = head_end_is text f.first f.more f.last f.is f.is_module f.is_end in
    let all = instances_between text f.first f.more f.last f.is starts ends head.none in
    record {
      instances =
          subst (Chain InstanceStands (head_end text) (end_at text)) (sym all)
          (subst (λ n. Chain InstanceStands n (end_at text) (flat_map (instances_by text) (sections (stands_in Start) f.more))) (sym behind)
          (subst (λ n. Chain InstanceStands (mark_end f.more) n (flat_map (instances_by text) (sections (stands_in Start) f.more))) (sym end)
          (items_stand text (sections (stands_in Start) f.more) (mark_end f.more) f.last.from head.items)));
      within = omega (arith, end, high);
    }
