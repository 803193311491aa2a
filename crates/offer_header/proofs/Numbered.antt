-- The names are well formed and distinct, and every number is below their number.
use Rattle.std.proofs.Common.{◌≡◌, ◌≢◌, ◌⊎◌, inl, inr, ℕ, ◌+◌, ◌<◌, length, get_or, List, [], ◌∷◌, ◌++◌, Bool, true, false, ◌&&◌, cond}
use Rattle.std.proofs.Common.{Ok, Err, refl, sym, ap, ◌∙◌, subst, arith}
use Rattle.std.proofs.Math.ListN.{get_or-append}
use Rattle.std.proofs.Math.Seq.{get_or-append_seam}
use Rattle.std.proofs.lemmas.Bool.Decides.{nat_tests, Decides-eqb}
use Rattle.std.proofs.lemmas.Bool.{leb-true}
use Rattle.std.proofs.lemmas.List.{length-append}
use Rattle.std.proofs.lemmas.List.Folds.{list_any_at, list_all_at}
use Rattle.std.proofs.lemmas.Slice.Eq.{bytes_eq-Decides}
use Rattle.std.specs.Prelude.{nat_le, nat_eq}
use Rattle.std.specs.Str.{bytes_eq}
use Rattle.std.specs.List.{list_any, list_all}
use Rattle.swap_base.specs.Fault.{◌>>=◌, steps}
use Rattle.swap_base.proofs.Lists.{and_parts}
use Rattle.command_input.specs.declared.reason.Reason.{Reason}
use Rattle.command_input.specs.declared.reason.Reason.TheVariants.{BadName, Duplicate}
use Rattle.offer_moves.specs.Lists.{collected_results}
use Rattle.offer_moves.specs.Names.{party_of_name}
use Rattle.offer_header.specs.Names.{is_name_byte, is_name, actor_known, name_added, name_step, names_stated, named_ends, leader_step, numbered_header}
use Rattle.offer_header.specs.Names.{IsName, AreNames, AreLeaders, AreEnds, IsNumbered}
use Rattle.offer_header.specs.declared.raw.RawParty.{RawParty}
use Rattle.offer_header.specs.declared.raw.RawArc.{RawArc}
use Rattle.offer_header.specs.declared.raw.RawLeader.{RawLeader}
use Rattle.offer_header.specs.declared.raw.RawHeader.{RawHeader}
use Rattle.offer_header.specs.declared.names.Ends.{Ends}
use Rattle.offer_header.specs.declared.names.Numbered.{Numbered}
use Rattle.offer_moves.proofs.Chains.{went, each_length, each_at}
use Rattle.offer_moves.proofs.Ranges.{party_below}
use Rattle.offer_header.proofs.Walked.{steps_keep, steps_length}

-- ---- one more at the end of a list

end_or_before : (i n : ℕ) → i < n + 1 → (i < n) ⊎ (i ≡ n)
end_or_before i n lt = grind arith

length_push : {A : Type 0} (xs : List A) (y : A) → length (xs ++ y ∷ []) ≡ length xs + 1
length_push {A = A} xs y = length-append xs (y ∷ [])

all_push : {A : Type 0} (P : A → Type 0) (xs : List A) (y d : A) → ((i : ℕ) → i < length xs → P (get_or xs i d)) → P y → (i : ℕ) → i < length (xs ++ y ∷ [])
    → P (get_or (xs ++ y ∷ []) i d)
all_push P xs y d all p i lt =
    elim (end_or_before i (length xs) (subst (λ n. i < n) (length_push xs y) lt)) [
      | inl before ↦ subst P (sym (get_or-append xs (y ∷ []) d i before)) (all i before)
      | inr e ↦ subst (λ k. P (get_or (xs ++ y ∷ []) k d)) (sym e) (subst P (sym (get_or-append_seam xs y [] d)) p)
    ]

abbrev AreApart : {A : Type 0} → List A → A → Type 0
AreApart xs d = (i j : ℕ) → i < length xs → j < length xs → get_or xs i d ≡ get_or xs j d → i ≡ j

apart_push : {A : Type 0} (xs : List A) (y d : A) → AreApart xs d → ((i : ℕ) → i < length xs → get_or xs i d ≢ y) → AreApart (xs ++ y ∷ []) d
apart_push xs y d apart fresh i j a b e =
    let seam : get_or (xs ++ y ∷ []) (length xs) d ≡ y = get_or-append_seam xs y [] d in
    elim (end_or_before i (length xs) (subst (λ n. i < n) (length_push xs y) a)) [
      | inl p ↦ elim (end_or_before j (length xs) (subst (λ n. j < n) (length_push xs y) b)) [
        | inl q ↦ apart i j p q (sym (get_or-append xs (y ∷ []) d i p) ∙ (e ∙ get_or-append xs (y ∷ []) d j q))
        | inr q ↦ absurd (fresh i p (sym (get_or-append xs (y ∷ []) d i p) ∙ (e ∙ (ap (λ k. get_or (xs ++ y ∷ []) k d) q ∙ seam))))
      ]
      | inr p ↦ elim (end_or_before j (length xs) (subst (λ n. j < n) (length_push xs y) b)) [
        | inl q ↦ absurd (fresh j q (sym (get_or-append xs (y ∷ []) d j q) ∙ (sym e ∙ (ap (λ k. get_or (xs ++ y ∷ []) k d) p ∙ seam))))
        | inr q ↦ p ∙ sym q
      ]
    ]

-- ---- names

ascii_byte : (b : ℕ) → is_name_byte b ≡ true → b < 128
ascii_byte b h = grind (arith, nat_tests)

not_false : (b : Bool) → (b ≡ false → ⊥) → b ≡ true
not_false true h = refl
not_false false h = absurd (h refl)

pub is_name_lem : (name : List ℕ) → is_name name ≡ true → IsName name
unfolding is_name
is_name_lem name h =
    let outer = and_parts (nat_le 1 (length name) && nat_le (length name) 16) (list_all is_name_byte name) h in
    let inner = and_parts (nat_le 1 (length name)) (nat_le (length name) 16) outer.0 in
    record {
      size = (leb-true 1 (length name) inner.0, leb-true (length name) 16 inner.1);
      ascii = λ i lt. ascii_byte (get_or name i 0) (not_false (is_name_byte (get_or name i 0))
          (λ no. let k : list_all is_name_byte name ≡ false = list_all_at is_name_byte name i 0 lt no in cc (sym outer.1 ∙ k)));
    }

two_tests : {X : Type 0} (a b : Bool) (x y : Reason) (z t : X) → cond a (cond b (Err x) (Ok z)) (Err y) ≡ Ok t → (a ≡ true) × (b ≡ false) × (z ≡ t)
two_tests true true x y z t h = absurd (cc h)
two_tests true false x y z t h = (refl, refl, cc h)
two_tests false b x y z t h = absurd (cc h)

one_test : {X : Type 0} (b : Bool) (x : Reason) (z t : X) → cond b (Err x) (Ok z) ≡ Ok t → (b ≡ false) × (z ≡ t)
one_test true x z t h = absurd (cc h)
one_test false x z t h = (refl, cc h)

name_added_ok : (line : ℕ) (seen : List (List ℕ)) (p : RawParty) (t : List (List ℕ)) → name_added line seen p ≡ Ok t
    → (is_name p.name ≡ true) × (list_any (bytes_eq p.name) seen ≡ false) × (seen ++ p.name ∷ [] ≡ t)
unfolding name_added
name_added_ok line seen p t h = two_tests (is_name p.name) (list_any (bytes_eq p.name) seen) (Duplicate line p.name) (BadName line p.name)
    (seen ++ p.name ∷ []) t h

name_step_ok : (has : List ℕ → Bool) (line : ℕ) (all seen : List (List ℕ)) (p : RawParty) (t : List (List ℕ)) → name_step has line all seen p ≡ Ok t
    → (is_name p.name ≡ true) × (list_any (bytes_eq p.name) seen ≡ false) × (seen ++ p.name ∷ [] ≡ t)
unfolding name_step
name_step_ok has line all seen p t h =
    let one = went (name_added line seen p) (λ names. actor_known has line all p.actor >>= λ u. Ok names) t h in
    let two = went (actor_known has line all p.actor) (λ u. Ok one.0) t one.2 in
    let r = name_added_ok line seen p one.0 one.1 in
    let same : one.0 ≡ t = cc (two.2) in
    (r.0, r.1, r.2 ∙ same)

fresh_name : (name : List ℕ) (seen : List (List ℕ)) → list_any (bytes_eq name) seen ≡ false → (i : ℕ) → i < length seen → get_or seen i [] ≢ name
fresh_name name seen none i lt e =
    let same : bytes_eq name (get_or seen i []) ≡ true = (bytes_eq-Decides name (get_or seen i [])).1 (sym e) in
    let some : list_any (bytes_eq name) seen ≡ true = list_any_at (bytes_eq name) seen i [] lt same in
    cc (sym none ∙ some)

pub keeps_names : (has : List ℕ → Bool) (line : ℕ) (all seen : List (List ℕ)) (p : RawParty) (t : List (List ℕ)) → AreNames seen
    → name_step has line all seen p ≡ Ok t → AreNames t
keeps_names has line all seen p t names h =
    let r = name_step_ok has line all seen p t h in
    subst (λ l. AreNames l) r.2 (record {
      name = all_push IsName seen p.name [] names.name (is_name_lem p.name r.0);
      apart = apart_push seen p.name [] names.apart (fresh_name p.name seen r.1);
    })

pub are_names : (has : List ℕ → Bool) (line : ℕ) (all : List (List ℕ)) (parties : List RawParty) (names : List (List ℕ))
    → steps (name_step has line all) [] parties ≡ Ok names
    → (length names ≡ length parties) × AreNames names
are_names has line all parties names h =
    let l : length names ≡ 0 + length parties = steps_length (name_step has line all)
    (λ s x t e. sym (ap length (name_step_ok has line all s x t e).2) ∙ (length_push s x.name ∙ omega arith)) [] parties names h in (
      omega arith,
      steps_keep (λ l. AreNames l) (name_step has line all) (keeps_names has line all) [] parties names
          (record { name = λ p lt. absurd (omega arith); apart = λ p q a b e. absurd (omega arith) }) h,
    )

-- ---- numbers

abbrev pub EndsBelow : ℕ → Ends → Type 0
EndsBelow n e = (e.from < n) × (e.to < n)

pub ends_below : (line : ℕ) (names : List (List ℕ)) (a : RawArc) (e : Ends) → named_ends line names a ≡ Ok e → EndsBelow (length names) e
unfolding named_ends
ends_below line names a e h =
    let one = went (party_of_name line names a.from) (λ from. party_of_name line names a.to >>= λ to. Ok (record { from = from; to = to })) e h in
    let two = went (party_of_name line names a.to) (λ to. Ok (record { from = one.0; to = to })) e one.2 in
    let p : one.0 < length names = party_below line names a.from one.0 one.1 in
    let q : two.0 < length names = party_below line names a.to two.0 two.1 in
    let same : record { from = one.0; to = two.0 } ≡ e = cc (two.2) in
    subst (EndsBelow (length names)) same (p, q)

abbrev zero_arc : RawArc
zero_arc = record { from = []; to = []; amount = 0; timelock = 0 }

abbrev zero_ends : Ends
zero_ends = record { from = 0; to = 0 }

pub are_ends : (line : ℕ) (names : List (List ℕ)) (arcs : List RawArc) (ends : List Ends) → collected_results (named_ends line names) arcs ≡ Ok ends
    → (length ends ≡ length arcs) × AreEnds (length names) ends
are_ends line names arcs ends h =
    let l : length ends ≡ length arcs = each_length (named_ends line names) arcs ends h in
    let at : (i : ℕ) → i < length ends → EndsBelow (length names) (get_or ends i zero_ends) = λ i lt.
    ends_below line names (get_or arcs i zero_arc) (get_or ends i zero_ends)
    (each_at (named_ends line names) arcs ends zero_arc zero_ends h i (omega arith)) in
    (l, record { from = λ i lt. (at i lt).0; to = λ i lt. (at i lt).1 })

-- ---- leaders

leader_step_ok : (line : ℕ) (names : List (List ℕ)) (seen : List ℕ) (l : RawLeader) (t : List ℕ) → leader_step line names seen l ≡ Ok t
    → (k : ℕ) × (k < length names) × (list_any (λ n. nat_eq n k) seen ≡ false) × (seen ++ k ∷ [] ≡ t)
unfolding leader_step
leader_step_ok line names seen l t h =
    let one = went (party_of_name line names l.party) (λ k. cond (list_any (λ n. nat_eq n k) seen) (Err (Duplicate line l.party)) (Ok (seen ++ k ∷ [])))
    t h in
    let two = one_test (list_any (λ n. nat_eq n one.0) seen) (Duplicate line l.party) (seen ++ one.0 ∷ []) t one.2 in
    (one.0, party_below line names l.party one.0 one.1, two.0, two.1)

fresh_leader : (k : ℕ) (seen : List ℕ) → list_any (λ n. nat_eq n k) seen ≡ false → (i : ℕ) → i < length seen → get_or seen i 0 ≢ k
fresh_leader k seen none i lt e =
    let same : nat_eq (get_or seen i 0) k ≡ true = (Decides-eqb (get_or seen i 0) k).1 e in
    let some : list_any (λ n. nat_eq n k) seen ≡ true = list_any_at (λ n. nat_eq n k) seen i 0 lt same in
    cc (sym none ∙ some)

keeps_leaders : (line : ℕ) (names : List (List ℕ)) (seen : List ℕ) (l : RawLeader) (t : List ℕ) → AreLeaders (length names) seen
    → leader_step line names seen l ≡ Ok t → AreLeaders (length names) t
keeps_leaders line names seen l t leaders h =
    let r = leader_step_ok line names seen l t h in
    subst (λ l. AreLeaders (length names) l) r.3 (record {
      below = all_push (λ k. k < length names) seen r.0 0 leaders.below r.1;
      apart = apart_push seen r.0 0 leaders.apart (fresh_leader r.0 seen r.2);
    })

pub are_leaders : (line : ℕ) (names : List (List ℕ)) (leaders : List RawLeader) (numbers : List ℕ) → steps (leader_step line names) [] leaders ≡ Ok numbers
    → (length numbers ≡ length leaders) × AreLeaders (length names) numbers
are_leaders line names leaders numbers h =
    let l : length numbers ≡ 0 + length leaders = steps_length (leader_step line names)
    (λ s x t e. let r = leader_step_ok line names s x t e in sym (ap length r.3) ∙ (length_push s r.0 ∙ omega arith)) [] leaders numbers h in (
      omega arith,
      steps_keep (λ l. AreLeaders (length names) l) (leader_step line names) (keeps_leaders line names) [] leaders numbers
          (record { below = λ p lt. absurd (omega arith); apart = λ p q a b e. absurd (omega arith) }) h,
    )

-- ---- all together

numbered_along : (raw : RawHeader) (m n : Numbered) → m ≡ n → IsNumbered raw m → IsNumbered raw n
numbered_along raw m n e is = subst (λ k. IsNumbered raw k) e is

pub is_numbered : (has : List ℕ → Bool) (line : ℕ) (raw : RawHeader) (n : Numbered) → numbered_header has line raw ≡ Ok n → IsNumbered raw n
unfolding numbered_header
is_numbered has line raw n h =
    let one = went (steps (name_step has line (names_stated raw.parties)) [] raw.parties) (λ names. collected_results (named_ends line names) raw.arcs >>= λ arcs.
    steps (leader_step line names) [] raw.leaders >>= λ leaders. Ok (record { names = names; arcs = arcs; leaders = leaders })) n h in
    let two = went (collected_results (named_ends line one.0) raw.arcs) (λ arcs. steps (leader_step line one.0) [] raw.leaders >>= λ leaders.
    Ok (record { names = one.0; arcs = arcs; leaders = leaders })) n one.2 in
    let three = went (steps (leader_step line one.0) [] raw.leaders) (λ leaders. Ok (record { names = one.0; arcs = two.0; leaders = leaders })) n two.2 in
    let same : record { names = one.0; arcs = two.0; leaders = three.0 } ≡ n = cc (three.2) in
    let a = are_names has line (names_stated raw.parties) raw.parties one.0 one.1 in
    let b = are_ends line one.0 raw.arcs two.0 two.1 in
    let c = are_leaders line one.0 raw.leaders three.0 three.1 in
    numbered_along raw (record { names = one.0; arcs = two.0; leaders = three.0 }) n same
    (record { parties = a.0; names = a.1; arcs = b.0; ends = b.1; leaders = c.0; leader = c.1 })
