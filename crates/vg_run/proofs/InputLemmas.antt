-- Inputs that are read one after another.
use Rattle.std.proofs.Common.{◌≡◌, ◌⊎◌, ℕ, zero, suc, ◌+◌, ◌<◌, ◌≤◌, List, [], ◌∷◌, length, take, inl, inr, refl, sym, ap, ◌∙◌, subst, arith, Option, IfSome, Err}
use Rattle.std.specs.List.{All}
use Rattle.std.proofs.lemmas.Bool.{cases_lt}
use Rattle.std.proofs.lemmas.Int.{clamps}
use Rattle.std.proofs.Math.ListN.{get_or}
use Rattle.std.proofs.lemmas.List.{get_or-take, get_or_default, length-take}
use Rattle.std.proofs.lemmas.List.Elements.{All-tail}
use Rattle.std.specs.Result.{IsErrOf}
use Rattle.std.specs.declared.vec.Vec.{Vec}
use Rattle.std.specs.declared.alloc.Global.{Global}
use Rattle.vg_words.specs.declared.ask.Ask.{Ask}
use Rattle.vg_store.specs.Reading.{FilesState, ReadFaultAt}
use Rattle.vg_store.specs.States.{KeepsWriting}
use Rattle.vg_store.specs.Writing.{FilesStay}
use Rattle.vg_store.specs.declared.read.ReadAll.{ReadAll}
use Rattle.vg_store.specs.declared.read.ReadAll.TheVariants.{Failed, TooLong, Memory}
use Rattle.vg_run.specs.Inputs.{inputs, name_of, told, IsLong, IsRead}
use Rattle.vg_answer.specs.Faults.{IsFirst, IsShort}
use Rattle.vg_run.specs.Outcomes.{IsUnread}
use Rattle.vg_answer.specs.declared.input.Input.{Input}

-- what two calls keep in turn
pub writing_kept : (old mid new : FilesState) → KeepsWriting old mid → KeepsWriting mid new → KeepsWriting old new
writing_kept old mid new first next = record {
  same_faults = next.same_faults ∙ first.same_faults;
  same_blame = next.same_blame ∙ first.same_blame;
  same_target = next.same_target ∙ first.same_target;
  same_writing = next.same_writing ∙ first.same_writing;
  same_draft = next.same_draft ∙ first.same_draft;
  same_drafts = next.same_drafts ∙ first.same_drafts;
}

-- the first that is bad, by its place
pub first_at : (Good Bad : Input → Type 0) (list : List Input) (i : ℕ) (d : Input) → i < length list → All Good (take i list) → Bad (get_or list i d) → IsFirst Good Bad list (get_or list i d)
first_at Good Bad [] i d h good bad = absurd (omega (arith, h))
first_at Good Bad (x ∷ xs) zero d h good bad = inl (refl, bad)
first_at Good Bad (x ∷ xs) (suc i) d h good bad =
    inr (good 0 d (omega arith), first_at Good Bad xs i d (omega (arith, h)) (All-tail Good x (take i xs) good) bad)

-- one more was read
pub reads_next : (tell : Input → Option (List ℕ)) (old new : Input → List ℕ) (list : List Input) (i : ℕ) (d : Input) (text : List ℕ) → i < length list → All (λ x. IsRead (tell x) (old x)) (take i list)
    → IsRead (tell (get_or list i d)) text → new (get_or list i d) ≡ text → ((other : Input) → (other ≡ get_or list i d) ⊎ (new other ≡ old other)) → All (λ x. IsRead (tell x) (new x)) (take (i + 1) list)
reads_next tell old new list i d text low all read own each k e h =
    let size = length-take (i + 1) list in
    let less = length-take i list in
    let within : k < i + 1 = omega (arith, clamps, size, h) in
    let x = get_or list k e in
    let mine : IsRead (tell (get_or list i d)) (new (get_or list i d)) = subst (λ (t : List ℕ). IsRead (tell (get_or list i d)) t) (sym own) read in
    let reads : IsRead (tell x) (new x) = elim (cases_lt k i) [
      | inl before ↦ elim (each x) [
        | inl is ↦ subst (λ (y : Input). IsRead (tell y) (new y)) (sym is) mine
        | inr same ↦ subst (λ (t : List ℕ). IsRead (tell x) t) (sym same) (subst (λ (y : Input). IsRead (tell y) (old y)) (get_or-take i list k e before) (all k e (omega (arith, clamps, less, low, before))))
      ]
      | inr after ↦ (let at : k ≡ i = omega (arith, within, after) in subst (λ (y : Input). IsRead (tell y) (new y)) (sym (ap (λ n. get_or list n e) at ∙ get_or_default list i e d low)) mine)
    ] in
    subst (λ (y : Input). IsRead (tell y) (new y)) (sym (get_or-take (i + 1) list k e within)) reads

-- of what is good all along, none is bad
pub none_first : (Good Bad Fine : Input → Type 0) (list : List Input) (input : Input) → IsFirst Good Bad list input → All Fine list → ((i : Input) → Fine i → Bad i → ⊥) → ⊥
none_first Good Bad Fine [] input first fine apart = first
none_first Good Bad Fine (x ∷ xs) input (inl (is, bad)) fine apart = apart x (fine 0 x (omega arith)) bad
none_first Good Bad Fine (x ∷ xs) input (inr (good, rest)) fine apart = none_first Good Bad Fine xs input rest (All-tail Fine x xs fine) apart

pub all_one : (P : Input → Type 0) (x : Input) → P x → All P (x ∷ [])
all_one P x p zero d h = p
all_one P x p (suc k) d h = absurd (omega (arith, h))

pub all_four : (P : Input → Type 0) (x y z w : Input) → P x → P y → P z → P w → All P (x ∷ y ∷ z ∷ w ∷ [])
all_four P x y z w p q r s zero d h = p
all_four P x y z w p q r s (suc zero) d h = q
all_four P x y z w p q r s (suc (suc zero)) d h = r
all_four P x y z w p q r s (suc (suc (suc zero))) d h = s
all_four P x y z w p q r s (suc (suc (suc (suc k)))) d h = absurd (omega (arith, h))

pub all_five : (P : Input → Type 0) (x y z w v : Input) → P x → P y → P z → P w → P v → All P (x ∷ y ∷ z ∷ w ∷ v ∷ [])
all_five P x y z w v p q r s t zero d h = p
all_five P x y z w v p q r s t (suc zero) d h = q
all_five P x y z w v p q r s t (suc (suc zero)) d h = r
all_five P x y z w v p q r s t (suc (suc (suc zero))) d h = s
all_five P x y z w v p q r s t (suc (suc (suc (suc zero)))) d h = t
all_five P x y z w v p q r s t (suc (suc (suc (suc (suc k))))) d h = absurd (omega (arith, h))

-- what was read of a file that is held as before
pub read_as : (held before : Option (List ℕ)) (text : List ℕ) → held ≡ before → IfSome held (λ file. text ≡ file) → IsShort text → IsRead before text
read_as held before text same is short = record { is_file = subst (λ (o : Option (List ℕ)). IfSome o (λ file. text ≡ file)) same is; short = short }

-- the first input that was not read
pub unread_is : (ask : Ask) (before mid after : FilesState) (texts : Input → List ℕ) (order : List Input) (i : ℕ) (d : Input) (cause : ReadAll) (name : List ℕ) → order ≡ inputs ask.mode → i < length order
    → All (λ x. IsRead (told before ask x) (texts x)) (take i order) → FilesStay before mid → before.read_faults ≤ mid.read_faults → name ≡ name_of ask (get_or order i d)
    → (IsErrOf {T = Vec ℕ Global} (Err cause) Failed → ReadFaultAt mid after (λ blamed. blamed ≡ name))
    → (IsErrOf {T = Vec ℕ Global} (Err cause) TooLong → IsLong (mid.holds name))
    → IsUnread ask (before, after) (get_or order i d, cause)
unread_is ask before mid after texts order i d Failed name is low read kept later named failed long =
    let (rose, blamed) = failed refl in
    record {
      texts = texts;
      first = subst (λ (list : List Input). IsFirst (λ x. IsRead (told before ask x) (texts x)) (λ x. Unit {0}) list (get_or order i d)) is
          (first_at (λ x. IsRead (told before ask x) (texts x)) (λ x. Unit {0}) order i d low read tt);
      caused = (omega (arith, rose, later), subst (λ (n : List ℕ). IfSome after.read_blame (λ blamed. blamed ≡ n)) named blamed);
    }
unread_is ask before mid after texts order i d TooLong name is low read kept later named failed long =
    let held : mid.holds name ≡ told before ask (get_or order i d) = kept name ∙ ap before.holds named in
    record {
      texts = texts;
      first = subst (λ (list : List Input). IsFirst (λ x. IsRead (told before ask x) (texts x)) (λ x. IsLong (told before ask x)) list (get_or order i d)) is
          (first_at (λ x. IsRead (told before ask x) (texts x)) (λ x. IsLong (told before ask x)) order i d low read
          (subst (λ (o : Option (List ℕ)). IsLong o) held (long refl)));
      caused = tt;
    }
unread_is ask before mid after texts order i d Memory name is low read kept later named failed long = tt
