-- Nets that stay and nets that are replaced, one after another.
use Rattle.std.proofs.Common.{◌≡◌, ℕ, ◌⊎◌, inl, inr, List, [], ◌∷◌, ◌++◌, map, refl, sym, subst}
use Rattle.std.proofs.lemmas.List.{map-append}
use Rattle.std.specs.List.{flat_map}
use Rattle.spef_patch_laws.specs.NetTexts.{NetText, text_names}
use Rattle.spef_patch_laws.proofs.ApartLemmas.{In, Apart, in_left, in_right, in_one, in_map, from_map, apart_both, apart_left, apart_right, apart_never}

-- a net that stays, or one with those in its place
pub data Item : Type 0 where
  kept : NetText → Item
  swapped : NetText → List NetText → Item

abbrev pub old_of : Item → NetText
old_of (kept text) = text
old_of (swapped text new) = text

abbrev pub new_of : Item → List NetText
new_of (kept text) = text ∷ []
new_of (swapped text new) = new

-- what stays, what is replaced, and what is written
abbrev pub stay_of : Item → List NetText
stay_of (kept text) = text ∷ []
stay_of (swapped text new) = []

abbrev pub gone_of : Item → List NetText
gone_of (kept text) = []
gone_of (swapped text new) = text ∷ []

abbrev pub put_of : Item → List NetText
put_of (kept text) = []
put_of (swapped text new) = new

abbrev pub olds : List Item → List NetText
olds items = map old_of items

abbrev pub news : List Item → List NetText
news items = flat_map new_of items

abbrev pub stays : List Item → List NetText
stays items = flat_map stay_of items

abbrev pub gones : List Item → List NetText
gones items = flat_map gone_of items

abbrev pub puts : List Item → List NetText
puts items = flat_map put_of items

-- ---- nets

pub new_from : (text : NetText) (items : List Item) → In text (news items) → In text (stays items) ⊎ In text (puts items)
new_from text (kept t ∷ items) (inl e) = inl (inl e)
new_from text (kept t ∷ items) (inr h) = elim (new_from text items h) as (λ _. In text (stays (kept t ∷ items)) ⊎ In text (puts items)) [
  | inl a ↦ inl (inr a)
  | inr b ↦ inr b
]
new_from text (swapped t new ∷ items) h = elim (in_one text new (news items) h) as (λ _. In text (stays items) ⊎ In text (puts (swapped t new ∷ items))) [
  | inl a ↦ inr (in_left text new (puts items) a)
  | inr b ↦ elim (new_from text items b) as (λ _. In text (stays items) ⊎ In text (puts (swapped t new ∷ items))) [
    | inl c ↦ inl c
    | inr d ↦ inr (in_right text new (puts items) d)
  ]
]
new_from text [] h = absurd h

pub stay_new : (text : NetText) (items : List Item) → In text (stays items) → In text (news items)
stay_new text (kept t ∷ items) (inl e) = inl e
stay_new text (kept t ∷ items) (inr h) = inr (stay_new text items h)
stay_new text (swapped t new ∷ items) h = in_right text new (news items) (stay_new text items h)
stay_new text [] h = absurd h

pub put_new : (text : NetText) (items : List Item) → In text (puts items) → In text (news items)
put_new text (kept t ∷ items) h = inr (put_new text items h)
put_new text (swapped t new ∷ items) h = elim (in_one text new (puts items) h) as (λ _. In text (new ++ news items)) [
  | inl a ↦ in_left text new (news items) a
  | inr b ↦ in_right text new (news items) (put_new text items b)
]
put_new text [] h = absurd h

pub old_from : (text : NetText) (items : List Item) → In text (olds items) → In text (stays items) ⊎ In text (gones items)
old_from text (kept t ∷ items) (inl e) = inl (inl e)
old_from text (kept t ∷ items) (inr h) = elim (old_from text items h) as (λ _. In text (stays (kept t ∷ items)) ⊎ In text (gones items)) [
  | inl a ↦ inl (inr a)
  | inr b ↦ inr b
]
old_from text (swapped t new ∷ items) (inl e) = inr (inl e)
old_from text (swapped t new ∷ items) (inr h) = elim (old_from text items h) as (λ _. In text (stays items) ⊎ In text (gones (swapped t new ∷ items))) [
  | inl a ↦ inl a
  | inr b ↦ inr (inr b)
]
old_from text [] h = absurd h

pub stay_old : (text : NetText) (items : List Item) → In text (stays items) → In text (olds items)
stay_old text (kept t ∷ items) (inl e) = inl e
stay_old text (kept t ∷ items) (inr h) = inr (stay_old text items h)
stay_old text (swapped t new ∷ items) h = inr (stay_old text items h)
stay_old text [] h = absurd h

gone_old : (text : NetText) (items : List Item) → In text (gones items) → In text (olds items)
gone_old text (kept t ∷ items) h = inr (gone_old text items h)
gone_old text (swapped t new ∷ items) (inl e) = inl e
gone_old text (swapped t new ∷ items) (inr h) = inr (gone_old text items h)
gone_old text [] h = absurd h

-- ---- names

pub in_names : (text : NetText) (texts : List NetText) → In text texts → In text.name (text_names texts)
in_names text texts h = in_map (λ (t : NetText). t.name) text texts h

pub named_one : (name : List ℕ) (texts : List NetText) → In name (text_names texts) → (t : NetText) × In t texts × (t.name ≡ name)
named_one name texts h = from_map (λ (t : NetText). t.name) name texts h

names_both : (xs ys : List NetText) → text_names (xs ++ ys) ≡ text_names xs ++ text_names ys
names_both xs ys = map-append (λ (t : NetText). t.name) xs ys

moved : (name : List ℕ) (xs ys : List NetText) → ((t : NetText) → In t xs → In t ys) → In name (text_names xs) → In name (text_names ys)
moved name xs ys move h =
    let (t, there, e) = named_one name xs h in
    subst (λ n. In n (text_names ys)) e (in_names t ys (move t there))

-- no net that stays has the name of one that is replaced
pub stays_gones : (items : List Item) → Apart (text_names (olds items)) → (name : List ℕ) → In name (text_names (stays items)) → In name (text_names (gones items)) → ⊥
stays_gones (kept t ∷ items) h name (inl e) b = h.0 (subst (λ n. In n (text_names (olds items))) e (moved name (gones items) (olds items) (λ x. gone_old x items) b))
stays_gones (kept t ∷ items) h name (inr a) b = stays_gones items h.1 name a b
stays_gones (swapped t new ∷ items) h name a (inl e) = h.0 (subst (λ n. In n (text_names (olds items))) e (moved name (stays items) (olds items) (λ x. stay_old x items) a))
stays_gones (swapped t new ∷ items) h name a (inr b) = stays_gones items h.1 name a b
stays_gones [] h name a b = a

pub stays_apart : (items : List Item) → Apart (text_names (olds items)) → Apart (text_names (stays items))
stays_apart [] h = tt
stays_apart (kept t ∷ items) h = ((λ a. h.0 (moved t.name (stays items) (olds items) (λ x. stay_old x items) a)), stays_apart items h.1)
stays_apart (swapped t new ∷ items) h = stays_apart items h.1

-- the nets that stand there then have different names
news_apart : (items : List Item) → Apart (text_names (stays items)) → Apart (text_names (puts items))
    → ((name : List ℕ) → In name (text_names (stays items)) → In name (text_names (puts items)) → ⊥) → Apart (text_names (news items))
news_apart [] p q none = tt
news_apart (kept t ∷ items) p q none = (
  (λ a.
      let (x, there, e) = named_one t.name (news items) a in
      elim (new_from x items there) [
        | inl stay ↦ p.0 (subst (λ n. In n (text_names (stays items))) e (in_names x (stays items) stay))
        | inr put ↦ none t.name (inl refl) (subst (λ n. In n (text_names (puts items))) e (in_names x (puts items) put))
      ]),
  news_apart items p.1 q (λ name a b. none name (inr a) b),
)
news_apart (swapped t new ∷ items) p q none =
    let q_both : Apart (text_names new ++ text_names (puts items)) = subst Apart (names_both new (puts items)) q in
    let later = news_apart items p (apart_right (text_names new) (text_names (puts items)) q_both)
    (λ name a b. none name a (subst (In name) (sym (names_both new (puts items))) (in_right name (text_names new) (text_names (puts items)) b))) in
    subst Apart (sym (names_both new (news items)))
    (apart_both (text_names new) (text_names (news items)) (apart_left (text_names new) (text_names (puts items)) q_both) later (λ name a b.
    let (x, there, e) = named_one name (news items) b in
    elim (new_from x items there) [
      | inl stay ↦ none name (subst (λ n. In n (text_names (stays items))) e (in_names x (stays items) stay)) (subst (In name) (sym (names_both new (puts items))) (in_left name (text_names new) (text_names (puts items)) a))
      | inr put ↦ apart_never (text_names new) (text_names (puts items)) q_both name a (subst (λ n. In n (text_names (puts items))) e (in_names x (puts items) put))
    ]))

-- no written net has the name of one that stays, where only replaced ones may have it
module _ (items : List Item) (apart : Apart (text_names (olds items))) (free : (name : List ℕ) → In name (text_names (puts items)) → In name (text_names (olds items)) → In name (text_names (gones items))) where
  pub never_stays : (name : List ℕ) → In name (text_names (stays items)) → In name (text_names (puts items)) → ⊥
  never_stays name a b = stays_gones items apart name a (free name b (moved name (stays items) (olds items) (λ x. stay_old x items) a))

  pub all_apart : Apart (text_names (puts items)) → Apart (text_names (news items))
  all_apart h = news_apart items (stays_apart items apart) h never_stays
