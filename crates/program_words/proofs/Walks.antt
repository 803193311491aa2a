-- `clap`'s walk over well-formed words.
use Rattle.std.proofs.Common.{◌≡◌, ◌∙◌, ◌&&◌, ◌||◌, ◌⊎◌, inl, inr, ℕ, Bool, true, false, List, [], ◌∷◌, Option, Some, None, refl, sym, ap, ap₂}
use Rattle.std.proofs.Common.{subst, find, codes, is_some, fold, map, cond, unwrap_or}
use Rattle.std.specs.Str.{bytes_eq}
use Rattle.std.proofs.lemmas.Slice.Eq.{bytes_eq-Decides}
use Rattle.clap.specs.Walk.{Held, Row, Rule, Text, Waiting, Walk, idle, option, arg_by_id, most_values, reacted, settled, takes_values, used, walked}
use Rattle.clap.specs.Takes.{react_passes, settle_passes, use_passes, walk_passes}
use Rattle.program_words.specs.Tables.{choice_label, choice_range, choice_word}
use Rattle.program_words.specs.Words.{verdict_continues, are_options, attached_text, first_or_empty, fits, front, is_given, is_number, names, option_step, to_text}
use Rattle.program_words.specs.declared.well_formed.Verdict.TheVariants.{Wrong}
use Rattle.clap.specs.Lexer.{long_of}
use Rattle.program_words.specs.declared.choice.Choice.{Choice}
use Rattle.program_words.specs.declared.choice.Choice.TheVariants.{Ticks, Transcript, Seed, Parties, Events, Summary}
use Rattle.program_words.proofs.Names.{IsLong, is_long, is_plain}
use Rattle.program_words.proofs.Rules.{by_id, by_long, rule, option_rule, shape}
use Rattle.program_words.proofs.Rows.{first_use_passes, given_row, has_id, or_assoc, or_else, or_none, used_finds, values_with}
use Rattle.program_words.proofs.Steps.{Leads, at, awaiting, behind_leads, flag_leads, number_leads, option_leads}

-- ---- options by their names

abbrev choice_of : Text → Option Choice
choice_of name = cond (bytes_eq name (codes "ticks")) (Some Ticks)
    (cond (bytes_eq name (codes "transcript")) (Some Transcript)
    (cond (bytes_eq name (codes "seed")) (Some Seed)
    (cond (bytes_eq name (codes "parties")) (Some Parties)
    (cond (bytes_eq name (codes "events")) (Some Events) (Some Summary)))))

by_name : (c : Choice) → choice_of (choice_label c) ≡ Some c
by_name Ticks = refl
by_name Transcript = refl
by_name Seed = refl
by_name Parties = refl
by_name Events = refl
by_name Summary = refl

pub one_name : (c d : Choice) → choice_label c ≡ choice_label d → c ≡ d
one_name c d h =
    let same : Some c ≡ Some d = sym (by_name c) ∙ ap choice_of h ∙ by_name d in
    cc

decide : (c d : Choice) → (c ≡ d) ⊎ (bytes_eq (choice_label c) (choice_label d) ≡ false)
decide c d = go (bytes_eq (choice_label c) (choice_label d)) refl
  where
    go : (b : Bool) → bytes_eq (choice_label c) (choice_label d) ≡ b → (c ≡ d) ⊎ (bytes_eq (choice_label c) (choice_label d) ≡ false)
    go true e = inl (one_name c d ((bytes_eq-Decides (choice_label c) (choice_label d)).0 e))
    go false e = inr e

own_name : (c : Choice) → bytes_eq (choice_label c) (choice_label c) ≡ true
own_name c = (bytes_eq-Decides (choice_label c) (choice_label c)).1 refl

id_is : (r : Option (ℕ × ℕ)) (id : Text) → (option_rule r id).id ≡ id
id_is None id = refl
id_is (Some range) id = refl

takes_is : (r : Option (ℕ × ℕ)) (id : Text) → takes_values (option_rule r id) ≡ is_some r
takes_is None id = refl
takes_is (Some range) id = refl

most_is : (r : Option (ℕ × ℕ)) (range : ℕ × ℕ) (id : Text) → r ≡ Some range → most_values (option_rule r id) ≡ 1
most_is r range id h = rw h refl

pub find_passes : {A : Type 0} (p : A → Bool) (xs : List A) (x : A) → find p xs ≡ Some x → p x ≡ true
find_passes p [] x h = cc
find_passes {A = A} p (y ∷ xs) x h = go (p y) refl (find_passes p xs x)
  where
    go : (b : Bool) → p y ≡ b → (find p xs ≡ Some x → p x ≡ true) → p x ≡ true
    go true e rec =
        let same : Some y ≡ Some x = rw e at h in
        let is : y ≡ x = cc in
        rw (← is) e
    go false e rec = rec (rw e at h)

and_intro : (a b : Bool) → a ≡ true → b ≡ true → (a && b) ≡ true
and_intro a b h k = rw (h, k) refl

pub or_right : (a b : Bool) → b ≡ true → (a || b) ≡ true
or_right true b h = refl
or_right false b h = h

or_left : (a b : Bool) → a ≡ true → (a || b) ≡ true
or_left a b h = rw h refl

or_none_left : (a b : Bool) → (a || b) ≡ false → b ≡ false
or_none_left true b h = cc
or_none_left false b h = h

-- ---- what is expected, and where the walk stands

abbrev pub expect_idle : Choice → List Text → Option Row
expect_idle c words = cond (is_given c words) (Some (given_row (choice_range c) (choice_label c) (to_text c words))) None

abbrev pub expect : Choice → Option Choice → List Text → Option Row
expect c None words = expect_idle c words
expect c (Some own) words =
    cond (bytes_eq (choice_label own) (choice_label c)) (Some (given_row (choice_range c) (choice_label c) (first_or_empty words))) (expect_idle c words)

abbrev pub waiting_of : Option Choice → Waiting
waiting_of None = idle
waiting_of (Some c) = option (rule c).id

-- the walk passes over the words, and at its end each option has what it had before or else what is
-- wanted
pub record Goes (name : Text) (rs : List Rule) (waiting : Waiting) (h : Held) (words : List Text) (R : List Row) (want : Choice → Option Row) : Type 0 where
  pub passes : walk_passes (shape name rs) [] (at waiting h) words ≡ true
  pub stopped : (fold (walked rs []) (at waiting h) words).stopped ≡ None
  pub settles : settle_passes rs false (fold (walked rs []) (at waiting h) words).held ≡ true
  pub found : (c : Choice) → find (has_id (choice_label c)) (settled rs (fold (walked rs []) (at waiting h) words).held).rows
      ≡ or_else (find (has_id (choice_label c)) R) (want c)

goes_on : (name : Text) (rs : List Rule) (waiting then : Waiting) (h reached : Held) (word : Text) (words : List Text) (test : Bool) (R : List Row)
    (want : Choice → Option Row) → Leads name rs waiting h word then reached test → test ≡ true → Goes name rs then reached words R want
    → Goes name rs waiting h (word ∷ words) R want
unfolding walk_passes
goes_on name rs waiting then h reached word words test R want l t g = record {
  passes = and_intro _ _ (l.passes ∙ t) (subst (λ (w : Walk). walk_passes (shape name rs) [] w words ≡ true) (sym l.walks) g.passes);
  stopped = subst (λ (w : Walk). (fold (walked rs []) w words).stopped ≡ None) (sym l.walks) g.stopped;
  settles = subst (λ (w : Walk). settle_passes rs false (fold (walked rs []) w words).held ≡ true) (sym l.walks) g.settles;
  found = λ c. subst (λ (w : Walk). find (has_id (choice_label c)) (settled rs (fold (walked rs []) w words).held).rows
      ≡ or_else (find (has_id (choice_label c)) R) (want c)) (sym l.walks) (g.found c);
}

wanted : (name : Text) (rs : List Rule) (waiting : Waiting) (h : Held) (words : List Text) (R S : List Row) (want wish : Choice → Option Row)
    → ((c : Choice) → or_else (find (has_id (choice_label c)) R) (want c) ≡ or_else (find (has_id (choice_label c)) S) (wish c))
    → Goes name rs waiting h words R want → Goes name rs waiting h words S wish
wanted name rs waiting h words R S want wish e g = record {
  passes = g.passes;
  stopped = g.stopped;
  settles = g.settles;
  found = λ c. g.found c ∙ e c;
}

-- no option that the words give has a row yet
abbrev IsFresh : List Text → List Row → Type 0
IsFresh words R = (c : Choice) → is_given c words ≡ true → find (has_id (choice_label c)) R ≡ None

pub record Idle (rs : List Rule) (words : List Text) (h : Held) (R : List Row) : Type 0 where
  pub settles : settle_passes rs false h ≡ true
  pub rows : (settled rs h).rows ≡ R
  pub fresh : IsFresh words R

pub record Waits (rs : List Rule) (own : Choice) (words : List Text) (h : Held) (R : List Row) : Type 0 where
  pub pending : h.pending ≡ Some ((rule own).id, [])
  pub rows : h.rows ≡ R
  pub by_id : arg_by_id rs (rule own).id ≡ Some (rule own)
  pub once : is_given own words ≡ false
  pub fresh_own : find (has_id (choice_label own)) R ≡ None
  pub fresh : IsFresh words R

abbrev pub Ready : List Rule → Option Choice → List Text → Held → List Row → Type 0
Ready rs None words h R = Idle rs words h R
Ready rs (Some own) words h R = Waits rs own words h R

abbrev Rest : Text → List Choice → List Text → Type 0
Rest name row words = (waits : Option Choice) (h : Held) (R : List Row) → are_options row waits words ≡ true
    → Ready (map rule row) waits words h R → Goes name (map rule row) (waiting_of waits) h words R (λ c. expect c waits words)

-- ---- after a use

abbrev rows_after : Choice → Text → List Row → List Row
rows_after own text R = used (rule own) (values_with (choice_range own) text) R

abbrev own_row : Choice → Text → Option Row
own_row own text = Some (given_row (choice_range own) (choice_label own) text)

still_fresh : (own : Choice) (text : Text) (words : List Text) (R : List Row) → find (has_id (choice_label own)) R ≡ None
    → is_given own words ≡ false → IsFresh words R → IsFresh words (rows_after own text R)
still_fresh own text words R none once fresh c given =
    used_finds own text R (choice_label c) none ∙ elim (decide own c) [
      | inl same ↦
          let bad : true ≡ false = sym given ∙ subst (λ (x : Choice). is_given x words ≡ false) same once in
          cc
      | inr other ↦ rw (other, fresh c given) refl
    ]

-- where what is wanted of the option is its row, and of the others what is wanted after it
joined : (own : Choice) (text : Text) (R : List Row) (want wish : Choice → Option Row) → find (has_id (choice_label own)) R ≡ None
    → wish own ≡ own_row own text
    → ((c : Choice) → bytes_eq (choice_label own) (choice_label c) ≡ false → want c ≡ wish c)
    → (c : Choice) → or_else (find (has_id (choice_label c)) (rows_after own text R)) (want c) ≡ or_else (find (has_id (choice_label c)) R) (wish c)
joined own text R want wish none is others c =
    let row : Option Row = cond (bytes_eq (choice_label own) (choice_label c)) (own_row own text) None in
    ap (λ (o : Option Row). or_else o (want c)) (used_finds own text R (choice_label c) none)
    ∙ or_assoc (find (has_id (choice_label c)) R) row (want c)
    ∙ ap (or_else (find (has_id (choice_label c)) R)) (elim (decide own c) [
      | inl same ↦ subst (λ (x : Choice). or_else (cond (bytes_eq (choice_label own) (choice_label x)) (own_row own text) None) (want x) ≡ wish x) same
          (rw (own_name own) (sym is))
      | inr other ↦ rw other (others c other)
    ])

-- a word that names one option names no other
other_name : (own c : Choice) (word : Text) → IsLong word own → bytes_eq (choice_label own) (choice_label c) ≡ false → names word c ≡ false
other_name own c word long h = go (names word c) refl
  where
    go : (b : Bool) → names word c ≡ b → names word c ≡ false
    go true e =
        let same : 45 ∷ 45 ∷ choice_label c ≡ 45 ∷ 45 ∷ choice_label own = (bytes_eq-Decides (choice_word c) (front word)).0 e ∙ long.front in
        let is : choice_label own ≡ choice_label c = cc in
        let bad : true ≡ false = sym ((bytes_eq-Decides (choice_label own) (choice_label c)).1 is) ∙ h in
        cc
    go false e = e

skips : (c : Choice) (word : Text) (words : List Text) → names word c ≡ false → expect_idle c words ≡ expect_idle c (word ∷ words)
skips c word words h = rw h refl

takes_own : (c : Choice) (word : Text) (words : List Text) (v : Option Text) → names word c ≡ true → attached_text word ≡ v
    → expect_idle c (word ∷ words) ≡ own_row c (unwrap_or v (first_or_empty words))
takes_own c word words v n b = rw (n, b) refl

flag_row : (c : Choice) (s t : Text) → choice_range c ≡ None → own_row c s ≡ own_row c t
flag_row c s t h = rw h refl

flag_values : (c : Choice) (text : Text) → choice_range c ≡ None → values_with (choice_range c) text ≡ []
flag_values c text h = rw h refl

number_values : (c : Choice) (range : ℕ × ℕ) (text : Text) → choice_range c ≡ Some range → values_with (choice_range c) text ≡ text ∷ []
number_values c range text h = rw h refl

use_passes_at : (c : Choice) (values : List Text) (text : Text) (R S : List Row) → values_with (choice_range c) text ≡ values → S ≡ R
    → find (has_id (choice_label c)) R ≡ None → use_passes false (rule c) values S ≡ true
use_passes_at c values text R S v s none =
    ap₂ (λ (vs : List Text) (rows : List Row). use_passes false (rule c) vs rows) (sym v) s ∙ first_use_passes c text R none

-- ---- one word where nothing waits

-- a use of an option in its own word
used_at_once : (name : Text) (row : List Choice) (own : Choice) (text : Text) (values : List Text) (word : Text) (words : List Text) (h : Held) (R : List Row)
    → IsLong word own → names word own ≡ true → is_given own words ≡ false → Idle (map rule row) (word ∷ words) h R
    → values_with (choice_range own) text ≡ values → expect_idle own (word ∷ words) ≡ own_row own text
    → are_options row None words ≡ true → Rest name row words
    → Leads name (map rule row) idle h word idle (reacted (map rule row) (rule own) values h) (react_passes (map rule row) false (rule own) values h)
    → Goes name (map rule row) idle h (word ∷ words) R (λ c. expect_idle c (word ∷ words))
used_at_once name row own text values word words h R long n once idle_now v is ok rest lead =
    let rs : List Rule = map rule row in
    let none : find (has_id (choice_label own)) R ≡ None = idle_now.fresh own (or_left _ _ n) in
    let later : IsFresh words R = λ c given. idle_now.fresh c (or_right _ _ given) in
    let next : Idle rs words (reacted rs (rule own) values h) (rows_after own text R) = record {
      settles = refl;
      rows = ap₂ (λ (vs : List Text) (rows : List Row). used (rule own) vs rows) (sym v) idle_now.rows;
      fresh = still_fresh own text words R none once later;
    } in
    let goes = rest None (reacted rs (rule own) values h) (rows_after own text R) ok next in
    goes_on name rs idle idle h (reacted rs (rule own) values h) word words _ R (λ c. expect_idle c (word ∷ words)) lead
    (and_intro _ _ idle_now.settles (use_passes_at own values text R (settled rs h).rows v idle_now.rows none))
    (wanted name rs idle _ words (rows_after own text R) R (λ c. expect_idle c words) (λ c. expect_idle c (word ∷ words))
    (joined own text R (λ c. expect_idle c words) (λ c. expect_idle c (word ∷ words)) none is
    (λ c other. skips c word words (other_name own c word long other))) goes)

-- an option whose number comes next
used_next : (name : Text) (row : List Choice) (own : Choice) (word : Text) (words : List Text) (h : Held) (R : List Row)
    → IsLong word own → names word own ≡ true → attached_text word ≡ None → is_given own words ≡ false → Idle (map rule row) (word ∷ words) h R
    → arg_by_id (map rule row) (rule own).id ≡ Some (rule own)
    → are_options row (Some own) words ≡ true → Rest name row words
    → Leads name (map rule row) idle h word (option (rule own).id) (awaiting (map rule row) (rule own) h) (settle_passes (map rule row) false h)
    → Goes name (map rule row) idle h (word ∷ words) R (λ c. expect_idle c (word ∷ words))
used_next name row own word words h R long n bare once idle_now found ok rest lead =
    let rs : List Rule = map rule row in
    let next : Waits rs own words (awaiting rs (rule own) h) R = record {
      pending = refl;
      rows = idle_now.rows;
      by_id = found;
      once = once;
      fresh_own = idle_now.fresh own (or_left _ _ n);
      fresh = λ c given. idle_now.fresh c (or_right _ _ given);
    } in
    goes_on name rs idle (option (rule own).id) h (awaiting rs (rule own) h) word words _ R (λ c. expect_idle c (word ∷ words)) lead idle_now.settles
    (wanted name rs (option (rule own).id) _ words R R (λ c. expect c (Some own) words) (λ c. expect_idle c (word ∷ words))
    (λ c. ap (or_else (find (has_id (choice_label c)) R)) (same c)) (rest (Some own) (awaiting rs (rule own) h) R ok next))
  where
    same : (c : Choice) → expect c (Some own) words ≡ expect_idle c (word ∷ words)
    same c = elim (decide own c) [
      | inl e ↦ subst (λ (x : Choice). expect x (Some own) words ≡ expect_idle x (word ∷ words)) e
          (rw (own_name own) (sym (takes_own own word words None n bare)))
      | inr other ↦ rw other (skips c word words (other_name own c word long other))
    ]

idle_step : (name : Text) (row : List Choice) (word : Text) (words : List Text) (h : Held) (R : List Row)
    → are_options row None (word ∷ words) ≡ true → Idle (map rule row) (word ∷ words) h R → Rest name row words
    → Goes name (map rule row) idle h (word ∷ words) R (λ c. expect_idle c (word ∷ words))
idle_step name row word words h R ok idle_now rest = by_option (find (names word) row) refl
  where
    by_parts : (own : Choice) → find (names word) row ≡ Some own → is_given own words ≡ false
        → (r : Option (ℕ × ℕ)) → choice_range own ≡ r → (v : Option Text) → attached_text word ≡ v
        → verdict_continues (option_step own r v) (λ next. are_options row next words) ≡ true
        → Goes name (map rule row) idle h (word ∷ words) R (λ c. expect_idle c (word ∷ words))
    by_parts own e once None range None v good =
        let n : names word own ≡ true = find_passes (names word) row own e in
        let long = is_long word own n in
        let bare : long_of word ≡ Some (choice_label own, None) = long.long ∙ ap (λ (t : Option Text). Some (choice_label own, t)) v in
        used_at_once name row own [] [] word words h R long n once idle_now (flag_values own [] range)
        (takes_own own word words None n v ∙ flag_row own (first_or_empty words) [] range) good rest
        (flag_leads name (choice_label own) (map rule row) (rule own) h word long.no_dashes bare (by_long row word own long e)
        (takes_is (choice_range own) (choice_label own) ∙ ap is_some range))
    by_parts own e once None range (Some text) v good = cc
    by_parts own e once (Some both_ends) range None v good =
        let n : names word own ≡ true = find_passes (names word) row own e in
        let long = is_long word own n in
        let bare : long_of word ≡ Some (choice_label own, None) = long.long ∙ ap (λ (t : Option Text). Some (choice_label own, t)) v in
        let found : arg_by_id (map rule row) (rule own).id ≡ Some (rule own) =
        ap (arg_by_id (map rule row)) (id_is (choice_range own) (choice_label own)) ∙ by_id row word own long e in
        used_next name row own word words h R long n v once idle_now found good rest
        (option_leads name (choice_label own) (map rule row) (rule own) h word long.no_dashes bare (by_long row word own long e)
        (takes_is (choice_range own) (choice_label own) ∙ ap is_some range))
    by_parts own e once (Some ends) range (Some text) v good = by_number (is_number ends text) refl
      where
        by_number : (b : Bool) → is_number ends text ≡ b → Goes name (map rule row) idle h (word ∷ words) R (λ c. expect_idle c (word ∷ words))
        by_number false f =
            let bad : false ≡ true = rw f at good in
            cc
        by_number true f =
            let n : names word own ≡ true = find_passes (names word) row own e in
            let long = is_long word own n in
            let whole : long_of word ≡ Some (choice_label own, Some text) = long.long ∙ ap (λ (t : Option Text). Some (choice_label own, t)) v in
            let more : are_options row None words ≡ true = rw f at good in
            used_at_once name row own text (text ∷ []) word words h R long n once idle_now (number_values own ends text range)
            (takes_own own word words (Some text) n v) more rest
            (behind_leads name (choice_label own) text (map rule row) (rule own) h word long.no_dashes whole (by_long row word own long e)
            (takes_is (choice_range own) (choice_label own) ∙ ap is_some range))

    by_once : (own : Choice) → find (names word) row ≡ Some own → (b : Bool) → is_given own words ≡ b
        → verdict_continues (cond b Wrong (option_step own (choice_range own) (attached_text word))) (λ next. are_options row next words) ≡ true
        → Goes name (map rule row) idle h (word ∷ words) R (λ c. expect_idle c (word ∷ words))
    by_once own e true once good = cc
    by_once own e false once good = by_parts own e once (choice_range own) refl (attached_text word) refl good

    by_option : (o : Option Choice) → find (names word) row ≡ o → Goes name (map rule row) idle h (word ∷ words) R (λ c. expect_idle c (word ∷ words))
    by_option None e =
        let bad : false ≡ true = rw e at ok in
        cc
    by_option (Some own) e = by_once own e (is_given own words) refl (rw e at ok)

-- ---- the number that an option waits for

pub fits_number : (r : Option (ℕ × ℕ)) (word : Text) → fits r word ≡ true → (ends : ℕ × ℕ) × (r ≡ Some ends) × (is_number ends word ≡ true)
fits_number None word h = cc
fits_number (Some ends) word h = (ends, refl, h)

waiting_step : (name : Text) (row : List Choice) (own : Choice) (word : Text) (words : List Text) (h : Held) (R : List Row)
    → are_options row (Some own) (word ∷ words) ≡ true → Waits (map rule row) own (word ∷ words) h R → Rest name row words
    → Goes name (map rule row) (option (rule own).id) h (word ∷ words) R (λ c. expect c (Some own) (word ∷ words))
waiting_step name row own word words h R ok waits_now rest = go (fits (choice_range own) word) refl
  where
    numbered : (ends : ℕ × ℕ) → choice_range own ≡ Some ends → is_number ends word ≡ true → are_options row None words ≡ true
        → Goes name (map rule row) (option (rule own).id) h (word ∷ words) R (λ c. expect c (Some own) (word ∷ words))
    numbered ends range number more =
        let rs : List Rule = map rule row in
        let plain = is_plain ends word number in
        let next_held : Held = record h { pending = Some ((rule own).id, word ∷ []) } in
        let same_id : bytes_eq (rule own).id (rule own).id ≡ true = (bytes_eq-Decides (rule own).id (rule own).id).1 refl in
        let lead = number_leads name rs (rule own) h word plain.no_dashes plain.long plain.short waits_now.by_id waits_now.pending
        (most_is (choice_range own) ends (choice_label own) range) same_id in
        let v = number_values own ends word range in
        let once : is_given own words ≡ false = or_none_left (names word own) (is_given own words) waits_now.once in
        let later : IsFresh words R = λ c given. waits_now.fresh c (or_right (names word c) (is_given c words) given) in
        let next : Idle rs words next_held (rows_after own word R) = record {
          settles = rw waits_now.by_id (use_passes_at own (word ∷ []) word R h.rows v waits_now.rows waits_now.fresh_own);
          rows = rw waits_now.by_id (ap₂ (λ (vs : List Text) (rows : List Row). used (rule own) vs rows) (sym v) waits_now.rows);
          fresh = still_fresh own word words R waits_now.fresh_own once later;
        } in
        goes_on name rs (option (rule own).id) idle h next_held word words true R (λ c. expect c (Some own) (word ∷ words)) lead refl
        (wanted name rs idle next_held words (rows_after own word R) R (λ c. expect_idle c words) (λ c. expect c (Some own) (word ∷ words))
        (joined own word R (λ c. expect_idle c words) (λ c. expect c (Some own) (word ∷ words)) waits_now.fresh_own
        (rw (own_name own) refl)
        (λ c other. rw other (skips c word words (plain.nameless c))))
        (rest None next_held (rows_after own word R) more next))

    go : (b : Bool) → fits (choice_range own) word ≡ b
        → Goes name (map rule row) (option (rule own).id) h (word ∷ words) R (λ c. expect c (Some own) (word ∷ words))
    go false f =
        let bad : false ≡ true = rw f at ok in
        cc
    go true f =
        let is = fits_number (choice_range own) word f in
        numbered is.0 is.1 is.2 (rw f at ok)

-- ---- all words

pub walks : (name : Text) (row : List Choice) (waits : Option Choice) (words : List Text) (h : Held) (R : List Row)
    → are_options row waits words ≡ true → Ready (map rule row) waits words h R
    → Goes name (map rule row) (waiting_of waits) h words R (λ c. expect c waits words)
unfolding walk_passes
walks name row None [] h R ok ready = record {
  passes = refl;
  stopped = refl;
  settles = ready.settles;
  found = λ c. ap (find (has_id (choice_label c))) ready.rows ∙ sym (or_none (find (has_id (choice_label c)) R));
}
walks name row (Some own) [] h R ok ready = cc
walks name row None (word ∷ words) h R ok ready =
    idle_step name row word words h R ok ready (λ waits reached S good next. walks name row waits words reached S good next)
walks name row (Some own) (word ∷ words) h R ok ready =
    waiting_step name row own word words h R ok ready (λ waits reached S good next. walks name row waits words reached S good next)
