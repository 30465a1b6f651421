-- What a judgment of the given values says of the words.
use Rattle.std.proofs.Common.{◌≡◌, ◌≢◌, ◌≤◌, ℕ, Bool, true, false, not, ◌&&◌, ◌||◌, ◌⊎◌, inl, inr, List, [], ◌∷◌, refl, sym, ap, ◌∙◌, subst, Option, Some, None, is_some, unwrap_or, pos, Result, Ok, Err, codes, if◌then◌else◌}
use Rattle.std.proofs.lemmas.Bool.{false≢true, true≢false}
use Rattle.std.specs.List.{find, list_any}
use Rattle.std.specs.Result.{IsErrAnd}
use Rattle.std.specs.Str.{bytes_eq}
use Rattle.std.proofs.lemmas.Slice.Eq.{bytes_eq-Decides}
use Rattle.vg_num.specs.Number.{value_of as number_of}
use Rattle.vg_words.proofs.OptionLemmas.{each, same_of_each, same_option}
use Rattle.vg_words.proofs.CountLemmas.{count_small}
use Rattle.vg_words.proofs.SpellingLemmas.{one_setting}
use Rattle.vg_words.proofs.TargetLemmas.{no_target, time_read}
use Rattle.vg_words.specs.Laws.{AsksAsIn, AsksForNet}
use Rattle.vg_words.specs.Views.{AreValues}
use Rattle.vg_words.specs.declared.ask.Ask.{Ask}
use mathlib.Core.Path.{fun_ext}
use Rattle.vg_words.specs.Options.{options, file_options, is_same, required, mode_of, mode_name}
use Rattle.vg_words.specs.Request.{Setting, Sets, Values, values_in, value_of, IsRequest, is_missing, is_excluded, flag_value, has_bad_value, is_bad, is_cap, is_parts, is_size, is_target, or_else, of_first, of_pair, first_equal, fault_in, fault_of_mode, fault_of_name, fault_of, HasMode, IsRefused, ReadsWords, value, cap_in, cap_of, parts_in, parts_of, size_in, size_of, target_in, target_of}
use Rattle.vg_words.specs.declared.option.Opt.{Opt}
use Rattle.vg_words.specs.declared.option.Opt.TheVariants.{Mode, Spef, Lib, Verilog, Cons, Net, All, OutSpef, OutVerilog, Cert, Cap, Prefix, Size, Parts, Target, Widths}
use Rattle.vg_words.specs.declared.ask.Mode.{Mode as ModeSpec}
use Rattle.vg_words.specs.declared.ask.Mode.TheVariants.{Wire, Time, Best, Frontier, Check, Gen, Sta, Segment, Repair, Total, Width}
use Rattle.vg_words.specs.declared.ask.WordFault.{WordFault}
use Rattle.vg_words.specs.declared.ask.WordFault.TheVariants.{Unread, Missing, Excluded, BadValue, Equal, Memory}

-- a fault of what is given, and neither of the words nor of memory
abbrev IsTold : Option WordFault → Type 0
IsTold None = Unit {0}
IsTold (Some (Missing o)) = Unit {0}
IsTold (Some (Excluded o)) = Unit {0}
IsTold (Some (BadValue o)) = Unit {0}
IsTold (Some (Equal a b)) = Unit {0}
IsTold (Some Unread) = ⊥
IsTold (Some Memory) = ⊥

told_or : (a b : Option WordFault) → IsTold a → IsTold b → IsTold (or_else a b)
told_or None b x y = y
told_or (Some fault) b x y = x

told_missing : (o : Option Opt) → IsTold (of_first Missing o)
told_missing None = tt
told_missing (Some o) = tt

told_excluded : (o : Option Opt) → IsTold (of_first Excluded o)
told_excluded None = tt
told_excluded (Some o) = tt

told_bad : (o : Option Opt) → IsTold (of_first BadValue o)
told_bad None = tt
told_bad (Some o) = tt

told_pair : (o : Option (Opt × Opt)) → IsTold (of_pair o)
told_pair None = tt
told_pair (Some (one, other)) = tt

told_in : (mode : ModeSpec) (values : Values) → IsTold (fault_in mode values)
told_in mode values =
    let equal = of_pair (first_equal values file_options) in
    let bad = of_first BadValue (find (is_bad values) options) in
    let excluded = of_first Excluded (find (is_excluded mode values) options) in
    let missing = of_first Missing (find (is_missing mode values) (required mode)) in
    let told_last = told_or bad equal (told_bad (find (is_bad values) options)) (told_pair (first_equal values file_options)) in
    told_or missing (or_else excluded (or_else bad equal)) (told_missing (find (is_missing mode values) (required mode)))
    (told_or excluded (or_else bad equal) (told_excluded (find (is_excluded mode values) options)) told_last)

told_mode : (values : Values) (mode : Option ModeSpec) → IsTold (fault_of_mode values mode)
told_mode values None = tt
told_mode values (Some mode) = told_in mode values

told_name : (values : Values) (name : Option (List ℕ)) → IsTold (fault_of_name values name)
told_name values None = tt
told_name values (Some name) = told_mode values (mode_of name)

told : (values : Values) → IsTold (fault_of values)
unfolding fault_of
told values = told_name values (values Mode)

refused_for : (words : List (List ℕ)) (ss : List Setting) (fault : WordFault) → IsTold (Some fault) → Sets words ss
    → fault_of (values_in ss) ≡ Some fault → ReadsWords (Err fault) words
refused_for words ss (Missing o) t g e = (ss, g, e)
refused_for words ss (Excluded o) t g e = (ss, g, e)
refused_for words ss (BadValue o) t g e = (ss, g, e)
refused_for words ss (Equal a b) t g e = (ss, g, e)
refused_for words ss Unread t g e = absurd t
refused_for words ss Memory t g e = absurd t

-- the values of words are those of their settings
values_are : (words : List (List ℕ)) (values : Values) (given : AreValues words values) → fault_of values ≡ fault_of (values_in given.settings)
values_are words values given = ap fault_of (fun_ext given.same)

pub refused : (words : List (List ℕ)) (values : Values) (r : Result Ask WordFault) (fault : WordFault) → IsErrAnd r (λ f. f ≡ fault)
    → AreValues words values → fault_of values ≡ Some fault → ReadsWords r words
refused words values (Ok ask) fault h given e = absurd h
refused words values (Err f) fault h given e =
    subst (λ f. ReadsWords (Err f) words) (sym h)
    (refused_for words given.settings fault (subst IsTold e (told values)) given.set (sym (values_are words values given) ∙ e))

some_mode : (a b : ModeSpec) → Some a ≡ Some b → a ≡ b
some_mode a b e = cc

requested_values : (values : Values) (ask : Ask) → values Mode ≡ Some (mode_name ask.mode) → values Spef ≡ ask.spef → values Lib ≡ ask.lib
    → values Verilog ≡ ask.verilog → values Cons ≡ ask.cons → values Net ≡ ask.net → values All ≡ flag_value ask.all
    → values OutSpef ≡ ask.out_spef → values OutVerilog ≡ ask.out_verilog → values Cert ≡ ask.cert → values Cap ≡ ask.cap
    → values Prefix ≡ ask.prefix → values Size ≡ ask.size → values Parts ≡ ask.parts → values Target ≡ ask.target
    → values Widths ≡ ask.widths
    → (option : Opt) → values option ≡ value ask option
requested_values values ask = each (λ option. values option ≡ value ask option)

-- a text that is the name of one mode, or else names another
named_or : (text : List ℕ) (own mode : ModeSpec) (rest : Option ModeSpec) → (if bytes_eq text (mode_name own) then Some own else rest) ≡ Some mode
    → (rest ≡ Some mode → text ≡ mode_name mode) → text ≡ mode_name mode
named_or text own mode rest e later =
    elim (bytes_eq text (mode_name own)) as (λ t. bytes_eq text (mode_name own) ≡ t → (if t then Some own else rest) ≡ Some mode → text ≡ mode_name mode) [
      | true ↦ λ is same. (bytes_eq-Decides text (mode_name own)).0 is ∙ ap mode_name (some_mode own mode same)
      | false ↦ λ _ same. later same
    ] refl e

-- a text that names a mode is its name
mode_named : (text : List ℕ) (mode : ModeSpec) → mode_of text ≡ Some mode → text ≡ mode_name mode
mode_named text mode e =
    let after_total : Option ModeSpec = if bytes_eq text (codes "width") then Some Width else None in
    let after_repair : Option ModeSpec = if bytes_eq text (codes "total") then Some Total else after_total in
    let after_segment : Option ModeSpec = if bytes_eq text (codes "repair") then Some Repair else after_repair in
    let after_sta : Option ModeSpec = if bytes_eq text (codes "segment") then Some Segment else after_segment in
    let after_gen : Option ModeSpec = if bytes_eq text (codes "sta") then Some Sta else after_sta in
    let after_check : Option ModeSpec = if bytes_eq text (codes "gen") then Some Gen else after_gen in
    let after_frontier : Option ModeSpec = if bytes_eq text (codes "check") then Some Check else after_check in
    let after_best : Option ModeSpec = if bytes_eq text (codes "frontier") then Some Frontier else after_frontier in
    let after_time : Option ModeSpec = if bytes_eq text (codes "best") then Some Best else after_best in
    let after_wire : Option ModeSpec = if bytes_eq text (codes "time") then Some Time else after_time in
    named_or text Wire mode after_wire e
    (λ e. named_or text Time mode after_time e
    (λ e. named_or text Best mode after_best e
    (λ e. named_or text Frontier mode after_frontier e
    (λ e. named_or text Check mode after_check e
    (λ e. named_or text Gen mode after_gen e
    (λ e. named_or text Sta mode after_sta e
    (λ e. named_or text Segment mode after_segment e
    (λ e. named_or text Repair mode after_repair e
    (λ e. named_or text Total mode after_total e
    (λ e. named_or text Width mode None e (λ none. absurd (cc))))))))))))

mode_given : (name : Option (List ℕ)) (mode : ModeSpec) → HasMode name mode → name ≡ Some (mode_name mode)
mode_given None mode h = absurd h
mode_given (Some name) mode h = ap (λ text. Some text) (mode_named name mode h)

-- what is kept of the given values is the request
pub requested : (words : List (List ℕ)) (values : Values) (mode : ModeSpec) (ask : Ask) → AreValues words values
    → (fault_of values ≡ None) × HasMode (values Mode) mode
    → ask.mode ≡ mode → ask.spef ≡ values Spef → ask.lib ≡ values Lib → ask.verilog ≡ values Verilog → ask.cons ≡ values Cons → ask.net ≡ values Net
    → flag_value ask.all ≡ values All → ask.out_spef ≡ values OutSpef → ask.out_verilog ≡ values OutVerilog → ask.cert ≡ values Cert → ask.cap ≡ values Cap
    → ask.prefix ≡ values Prefix → ask.size ≡ values Size → ask.parts ≡ values Parts → ask.target ≡ values Target → ask.widths ≡ values Widths
    → IsRequest words ask
requested words values mode ask given (e, h) m s l v c n a os ov r k p z q t w =
    let named = mode_given (values Mode) mode h ∙ ap (λ x. Some (mode_name x)) (sym m) in
    let kept = requested_values values ask named (sym s) (sym l) (sym v) (sym c) (sym n) (sym a) (sym os) (sym ov) (sym r) (sym k) (sym p) (sym z)
    (sym q) (sym t) (sym w) in
    record {
      settings = given.settings;
      set = given.set;
      faultless = sym (values_are words values given) ∙ e;
      values = λ option. sym (given.same option) ∙ kept option;
    }

-- words ask for one thing at most
named_mode : (mode : ModeSpec) → mode_of (mode_name mode) ≡ Some mode
named_mode Wire = refl
named_mode Time = refl
named_mode Best = refl
named_mode Frontier = refl
named_mode Check = refl
named_mode Gen = refl
named_mode Sta = refl
named_mode Segment = refl
named_mode Repair = refl
named_mode Total = refl
named_mode Width = refl

one_mode : (a b : ModeSpec) → mode_name a ≡ mode_name b → a ≡ b
one_mode a b e = some_mode a b (sym (named_mode a) ∙ ap mode_of e ∙ named_mode b)

some_text : (a b : List ℕ) → Some a ≡ Some b → a ≡ b
some_text a b e = cc

given_flag : (a : Bool) → is_some (flag_value a) ≡ a
given_flag true = refl
given_flag false = refl

one_all : (a b : Bool) → flag_value a ≡ flag_value b → a ≡ b
one_all a b e = sym (given_flag a) ∙ ap (λ (o : Option (List ℕ)). is_some o) e ∙ given_flag b

pub one : (words : List (List ℕ)) (a b : Ask) → IsRequest words a → IsRequest words b → a ≡ b
one words a b x y =
    let same = one_setting words x.settings y.settings x.set y.set in
    let values : (option : Opt) → value a option ≡ value b option = λ option. sym (x.values option) ∙ ap (value_of option) same ∙ y.values option in
    let all = one_all a.all b.all (values All) in
    let mode = one_mode a.mode b.mode (some_text (mode_name a.mode) (mode_name b.mode) (values Mode)) in
    λ i. record {
      mode = mode i;
      spef = values Spef i;
      lib = values Lib i;
      verilog = values Verilog i;
      cons = values Cons i;
      net = values Net i;
      all = all i;
      out_spef = values OutSpef i;
      out_verilog = values OutVerilog i;
      cert = values Cert i;
      cap = values Cap i;
      prefix = values Prefix i;
      size = values Size i;
      parts = values Parts i;
      target = values Target i;
      widths = values Widths i;
    }

-- words that are refused are no request
fault_apart : (words : List (List ℕ)) (fault : WordFault) → (ss : List Setting) × Sets words ss × (fault_of (values_in ss) ≡ Some fault)
    → (request : Ask) → IsRequest words request → ⊥
fault_apart words fault (ss, set, e) request is =
    let none : None ≡ Some fault = sym is.faultless ∙ ap (λ ss. fault_of (values_in ss)) (one_setting words is.settings ss is.set set) ∙ e in
    cc

pub refused_none : (words : List (List ℕ)) (fault : WordFault) → IsRefused words fault → (request : Ask) → IsRequest words request → ⊥
refused_none words Unread refused request is = refused is.settings is.set
refused_none words (Missing o) refused request is = fault_apart words (Missing o) refused request is
refused_none words (Excluded o) refused request is = fault_apart words (Excluded o) refused request is
refused_none words (BadValue o) refused request is = fault_apart words (BadValue o) refused request is
refused_none words (Equal a b) refused request is = fault_apart words (Equal a b) refused request is
refused_none words Memory refused request is = absurd refused

-- ---- what is asked for

no_option : (o : Opt) → Some o ≡ None → ⊥
no_option o e = cc

-- where no option of a list is found, none of them is meant
pub none_found : (p : Opt → Bool) (os : List Opt) (o : Opt) → find p os ≡ None → list_any (is_same o) os ≡ true → p o ≡ false
none_found p [] o e among = absurd (false≢true among)
none_found p (x ∷ xs) o e among = go (p x) refl (is_same o x) refl (none_found p xs o)
  where
    go : (a : Bool) → p x ≡ a → (b : Bool) → is_same o x ≡ b → (find p xs ≡ None → list_any (is_same o) xs ≡ true → p o ≡ false) → p o ≡ false
    go true is b same later = absurd (no_option x (sym (rw is refl) ∙ e))
    go false is true same later = ap p (same_option o x same) ∙ is
    go false is false same later = later (sym (rw is refl) ∙ e) (sym (rw same refl) ∙ among)

no_first : (fault : Opt → WordFault) (o : Option Opt) → of_first fault o ≡ None → o ≡ None
no_first fault None e = refl
no_first fault (Some o) e = absurd (cc)

no_pair : (o : Option (Opt × Opt)) → of_pair o ≡ None → o ≡ None
no_pair None e = refl
no_pair (Some (one, other)) e = absurd (cc)

no_faults : (a b : Option WordFault) → or_else a b ≡ None → (a ≡ None) × (b ≡ None)
no_faults None b e = (refl, e)
no_faults (Some fault) b e = absurd (cc)

all_options : (o : Opt) → list_any (is_same o) options ≡ true
all_options = same_of_each (λ o. list_any (is_same o) options) (λ _. true) refl

-- what a judgment without a fault says of each option, and of those that name files
pub record IsWhole (mode : ModeSpec) (values : Values) : Type 0 where
  pub found : (o : Opt) → list_any (is_same o) (required mode) ≡ true → is_missing mode values o ≡ false
  pub allowed : (o : Opt) → is_excluded mode values o ≡ false
  pub good : (o : Opt) → is_bad values o ≡ false
  pub apart : first_equal values file_options ≡ None

whole : (mode : ModeSpec) (values : Values) → fault_in mode values ≡ None → IsWhole mode values
whole mode values e =
    let (missing, later) = no_faults _ _ e in
    let (excluded, last) = no_faults _ _ later in
    let (bad, equal) = no_faults _ _ last in
    record {
      found = λ o. none_found (is_missing mode values) (required mode) o (no_first Missing _ missing);
      allowed = λ o. none_found (is_excluded mode values) options o (no_first Excluded _ excluded) (all_options o);
      good = λ o. none_found (is_bad values) options o (no_first BadValue _ bad) (all_options o);
      apart = no_pair _ equal;
    }

pub whole_request : (words : List (List ℕ)) (ask : Ask) → IsRequest words ask → IsWhole ask.mode (value ask)
unfolding fault_of
whole_request words ask is =
    let same : values_in is.settings ≡ value ask = fun_ext is.values in
    let named : fault_of_mode (value ask) (mode_of (mode_name ask.mode)) ≡ None = sym (ap fault_of same) ∙ is.faultless in
    whole ask.mode (value ask) (sym (ap (fault_of_mode (value ask)) (named_mode ask.mode)) ∙ named)

-- one net or all, from what is missing and what is excluded
one_net : (net : Option (List ℕ)) (all : Bool) → not (is_some net || (is_some (flag_value all) && false)) ≡ false
    → (is_some (flag_value all) && true) ≡ false → (is_some net ≡ true) × (all ≡ false)
one_net (Some n) false found allowed = (refl, refl)
one_net (Some n) true found allowed = absurd (true≢false allowed)
one_net None false found allowed = absurd (true≢false found)
one_net None true found allowed = absurd (true≢false found)

net_or_all : (net : Option (List ℕ)) (all : Bool) → not (is_some net || (is_some (flag_value all) && true)) ≡ false
    → (is_some (flag_value all) && is_some net) ≡ false → ((is_some net ≡ true) × (all ≡ false)) ⊎ ((net ≡ None) × (all ≡ true))
net_or_all (Some n) false found allowed = inl (refl, refl)
net_or_all (Some n) true found allowed = absurd (true≢false allowed)
net_or_all None false found allowed = absurd (true≢false found)
net_or_all None true found allowed = inr (refl, refl)

no_net : (net : Option (List ℕ)) (all : Bool) → (is_some net && true) ≡ false → (is_some (flag_value all) && true) ≡ false
    → (net ≡ None) × (all ≡ false)
no_net None false allowed alone = (refl, refl)
no_net None true allowed alone = absurd (true≢false alone)
no_net (Some n) all allowed alone = absurd (true≢false allowed)

all_nets : (net : Option (List ℕ)) (all : Bool) → (is_some net && true) ≡ false → not (is_some (flag_value all) || false) ≡ false
    → (net ≡ None) × (all ≡ true)
all_nets None true allowed found = (refl, refl)
all_nets None false allowed found = absurd (true≢false found)
all_nets (Some n) all allowed found = absurd (true≢false allowed)

asks_as_in : (mode : ModeSpec) (ask : Ask) → IsWhole mode (value ask) → AsksAsIn mode ask
asks_as_in Wire ask w = one_net ask.net ask.all (w.found Net refl) (w.allowed All)
asks_as_in Time ask w = net_or_all ask.net ask.all (w.found Net refl) (w.allowed All)
asks_as_in Best ask w = net_or_all ask.net ask.all (w.found Net refl) (w.allowed All)
asks_as_in Frontier ask w = net_or_all ask.net ask.all (w.found Net refl) (w.allowed All)
asks_as_in Check ask w = one_net ask.net ask.all (w.found Net refl) (w.allowed All)
asks_as_in Gen ask w = no_net ask.net ask.all (w.allowed Net) (w.allowed All)
asks_as_in Sta ask w = no_net ask.net ask.all (w.allowed Net) (w.allowed All)
asks_as_in Segment ask w = net_or_all ask.net ask.all (w.found Net refl) (w.allowed All)
asks_as_in Repair ask w = net_or_all ask.net ask.all (w.found Net refl) (w.allowed All)
asks_as_in Total ask w = all_nets ask.net ask.all (w.allowed Net) (w.found All refl)
asks_as_in Width ask w = one_net ask.net ask.all (w.found Net refl) (w.allowed All)

pub one_or_all : (words : List (List ℕ)) (ask : Ask) → IsRequest words ask → AsksAsIn ask.mode ask
one_or_all words ask is = asks_as_in ask.mode ask (whole_request words ask is)

-- a request with a certificate asks for one net
no_cert : (cert : Option (List ℕ)) → (is_some cert && true) ≡ false → cert ≡ None
no_cert None allowed = refl
no_cert (Some c) allowed = absurd (true≢false allowed)

cert_of_net : (mode : ModeSpec) (ask : Ask) → IsWhole mode (value ask) → ask.cert ≢ None → AsksForNet ask
cert_of_net Wire ask w named = absurd (named (no_cert ask.cert (w.allowed Cert)))
cert_of_net Time ask w named = absurd (named (no_cert ask.cert (w.allowed Cert)))
cert_of_net Best ask w named =
    elim (asks_as_in Best ask w) [
      | inl net ↦ net
      | inr (_, all) ↦ absurd (named (no_cert ask.cert (ap (λ a. is_some ask.cert && is_some (flag_value a)) (sym all) ∙ w.allowed Cert)))
    ]
cert_of_net Frontier ask w named = absurd (named (no_cert ask.cert (w.allowed Cert)))
cert_of_net Check ask w named = asks_as_in Check ask w
cert_of_net Gen ask w named = absurd (named (no_cert ask.cert (w.allowed Cert)))
cert_of_net Sta ask w named = absurd (named (no_cert ask.cert (w.allowed Cert)))
cert_of_net Segment ask w named = absurd (named (no_cert ask.cert (w.allowed Cert)))
cert_of_net Repair ask w named = absurd (named (no_cert ask.cert (w.allowed Cert)))
cert_of_net Total ask w named = absurd (named (no_cert ask.cert (w.allowed Cert)))
cert_of_net Width ask w named = absurd (named (no_cert ask.cert (w.allowed Cert)))

pub certs : (words : List (List ℕ)) (ask : Ask) → IsRequest words ask → ask.cert ≢ None → AsksForNet ask
certs words ask is = cert_of_net ask.mode ask (whole_request words ask is)

not_not : (b : Bool) → not b ≡ false → b ≡ true
not_not true e = refl
not_not false e = absurd (true≢false e)

-- a size, and a number of parts, from the same
small_size : (size : Option (List ℕ)) → not (is_some size || false) ≡ false → has_bad_value Size size ≡ false
    → let n = unwrap_or (size_in (unwrap_or size [])) 0 in (1 ≤ n) × (n ≤ 4000)
small_size None found good = absurd (true≢false found)
small_size (Some text) found good = count_small 4 4000 text (not_not (is_size text) good)

few_parts : (parts : Option (List ℕ)) → not (is_some parts || false) ≡ false → has_bad_value Parts parts ≡ false
    → let n = unwrap_or (parts_in (unwrap_or parts [])) 0 in (1 ≤ n) × (n ≤ 64)
few_parts None found good = absurd (true≢false found)
few_parts (Some text) found good = count_small 2 64 text (not_not (is_parts text) good)

pub small : (words : List (List ℕ)) (ask : Ask) → IsRequest words ask → ask.mode ≡ Gen → (1 ≤ size_of ask) × (size_of ask ≤ 4000)
small words ask is e =
    let w : IsWhole Gen (value ask) = subst (λ mode. IsWhole mode (value ask)) e (whole_request words ask is) in
    small_size ask.size (w.found Size refl) (w.good Size)

pub few : (words : List (List ℕ)) (ask : Ask) → IsRequest words ask → ask.mode ≡ Segment → (1 ≤ parts_of ask) × (parts_of ask ≤ 64)
few words ask is e =
    let w : IsWhole Segment (value ask) = subst (λ mode. IsWhole mode (value ask)) e (whole_request words ask is) in
    few_parts ask.parts (w.found Parts refl) (w.good Parts)

-- both names of files that are written, or neither
both_or_none : (one other : Option (List ℕ)) → not (is_some one || (true && not (is_some other))) ≡ false
    → not (is_some other || (true && not (is_some one))) ≡ false → is_some one ≡ is_some other
both_or_none None None found other_found = refl
both_or_none (Some a) (Some b) found other_found = refl
both_or_none None (Some b) found other_found = absurd (true≢false found)
both_or_none (Some a) None found other_found = absurd (true≢false other_found)

pub paired : (words : List (List ℕ)) (ask : Ask) → IsRequest words ask → ask.mode ≡ Total → is_some ask.out_spef ≡ is_some ask.out_verilog
paired words ask is e =
    let w : IsWhole Total (value ask) = subst (λ mode. IsWhole mode (value ask)) e (whole_request words ask is) in
    both_or_none ask.out_spef ask.out_verilog (w.found OutSpef refl) (w.found OutVerilog refl)

-- the cap that is given is the number that its text writes
one_cap : (cap : Option (List ℕ)) (text : List ℕ) → has_bad_value Cap cap ≡ false → cap ≡ Some text
    → cap_in (unwrap_or cap []) ≡ Some (number_of text)
one_cap cap text good e =
    let is : is_cap text ≡ true = not_not (is_cap text) (ap (has_bad_value Cap) (sym e) ∙ good) in
    ap (λ (o : Option (List ℕ)). cap_in (unwrap_or o [])) e ∙ rw is refl

pub caps : (words : List (List ℕ)) (ask : Ask) → IsRequest words ask → (text : List ℕ) → ask.cap ≡ Some text → cap_of ask ≡ Some (number_of text)
caps words ask is text e = one_cap ask.cap text ((whole_request words ask is).good Cap) e

-- the target is the time that its text writes, or 0
pub targets : (words : List (List ℕ)) (ask : Ask) → IsRequest words ask
    → ((text : List ℕ) → ask.target ≡ Some text → target_in text ≡ Some (target_of ask)) × (ask.target ≡ None → target_of ask ≡ pos 0)
targets words ask is =
    let good : has_bad_value Target ask.target ≡ false = (whole_request words ask is).good Target in
    (λ text given. time_read ask.target text (not_not (is_target text) (ap (has_bad_value Target) (sym given) ∙ good)) given, no_target ask.target)
