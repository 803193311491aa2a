-- A header holds no floating number, so that its text is pinned byte for byte.
use Rattle.std.proofs.Common.{◌≡◌, ℕ, Bool, true, false, cond, List, [], ◌∷◌, map, refl, slice_index, slice_index_or}
use Rattle.std.proofs.Common.{Option, Some, None, codes}
use Rattle.std.specs.List.{range_with_len}
use Rattle.serde_json.specs.Data.{Data, Members, no_members, member}
use Rattle.serde_json.specs.View.{items_of}
use Rattle.serde_json.specs.Written.{has_float, items_have_float, members_have_float}
use Rattle.swap_digraph.specs.declared.arc_ends.ArcEnds.{ArcEnds}
use Rattle.swap_digraph.specs.declared.deal.Deal.{Deal}
use Rattle.swap_digraph.specs.declared.deal.Mode.{Mode}
use Rattle.swap_digraph.specs.declared.deal.Mode.TheVariants.{Timelocks, Hashkeys}
use Rattle.swap_digraph.specs.Graph.{arcs, ends}
use Rattle.swap_digraph.specs.Deal.{amount, locks}
use Rattle.swap_job.specs.declared.job.Job.{Job}
use Rattle.swap_job.specs.declared.job.Role.{Role}
use Rattle.swap_job.specs.declared.job.Role.TheVariants.{Conforming, Manual, Script, Strategy}
use Rattle.swap_job.specs.declared.moves.Move.{Move}
use Rattle.swap_job.specs.declared.moves.Move.TheVariants.{Publish, Craft, Replay, Raw, Claim, Refund, Transfer, Wait}
use Rattle.offer_text.specs.Words.{digest_data, list_data, name_data, number_data, with_optional}
use Rattle.offer_text.specs.Moves.{move_data, signature_data}
use Rattle.offer_text.specs.HeaderLine.{arc_data, arc_json, arcs_data, leader_value, shown_party, actor_data, made_party, fields_by_mode, parties_data}
use Rattle.offer_text.specs.HeaderLine.{shown_header}
use Rattle.offer_text.specs.HeaderLine.{made_header, header_data, is_make}

items_without : {A : Type 0} (f : A → Data) → ((x : A) → has_float (f x) ≡ false) → (xs : List A) → items_have_float (items_of (map f xs)) ≡ false
items_without f none [] = refl
items_without f none (x ∷ xs) = rw (none x) (items_without f none xs)

pub list_without : {A : Type 0} (f : A → Data) → ((x : A) → has_float (f x) ≡ false) → (xs : List A) → has_float (list_data f xs) ≡ false
list_without f none xs = items_without f none xs

arc_without : (m : Mode) (names : List (List ℕ)) (arc : ArcEnds) (n t : ℕ) → has_float (arc_data m names arc n t) ≡ false
arc_without Timelocks names arc n t = refl
arc_without Hashkeys names arc n t = refl

row_without : (row : List (List ℕ)) → has_float (list_data digest_data row) ≡ false
row_without row = list_without digest_data (λ x. refl) row

fields_without : (m : Mode) (names : List (List ℕ)) (parties : Data) (d : Deal) → has_float parties ≡ false
    → members_have_float (fields_by_mode m names parties d) ≡ false
fields_without Timelocks names parties d p = rw (list_without (leader_value names d) (λ i. refl) (locks d), p) refl
fields_without Hashkeys names parties d p =
    rw (list_without (list_data digest_data) row_without d.keys, list_without (leader_value names d) (λ i. refl) (locks d), p) refl

arcs_without : (names : List (List ℕ)) (d : Deal) → has_float (arcs_data names d) ≡ false
arcs_without names d =
    list_without (arc_json names d) (λ a. arc_without d.mode names (ends d.graph a) (amount d a) (slice_index d.timelocks a)) (arcs d.graph)

shown_has_none : (job : Job) → has_float (shown_header job) ≡ false
shown_has_none job =
    let parties = list_without (shown_party job) (λ p. refl) (range_with_len 0 job.deal.graph.n) in
    rw (arcs_without job.names job.deal) (fields_without job.deal.mode job.names (parties_data shown_party job) job.deal parties)

-- Moves.

member_without : (field : List ℕ) (d : Data) (ms : Members) → has_float d ≡ false → members_have_float ms ≡ false
    → members_have_float (member field d ms) ≡ false
member_without field d ms e rest = rw (e, rest) refl

optional_without : {A : Type 0} (field : List ℕ) (f : A → Data) (o : Option A) (ms : Members) → ((x : A) → has_float (f x) ≡ false)
    → members_have_float ms ≡ false → members_have_float (with_optional field f o ms) ≡ false
optional_without field f None ms none rest = rest
optional_without field f (Some x) ms none rest = member_without field (f x) ms (none x) rest

number_optional : (field : List ℕ) (o : Option ℕ) (ms : Members) → members_have_float ms ≡ false
    → members_have_float (with_optional field number_data o ms) ≡ false
number_optional field o ms rest = optional_without field number_data o ms (λ n. refl) rest

names_without : (names : List (List ℕ)) (ps : List ℕ) → has_float (list_data (name_data names) ps) ≡ false
names_without names ps = list_without (name_data names) (λ p. refl) ps

move_without : (names : List (List ℕ)) (mv : Move) → has_float (move_data names mv) ≡ false
unfolding move_data
move_without names (Publish arc start delta bound timelock amount locks) =
    number_optional (codes "amount") amount _
    (number_optional (codes "bound") bound _
    (number_optional (codes "delta") delta _
    (optional_without (codes "locks") (list_data digest_data) locks _ row_without
    (number_optional (codes "start") start _
    (number_optional (codes "timelock") timelock no_members refl)))))
move_without names (Craft arc lock via onto) =
    number_optional (codes "onto") onto _ (member_without (codes "via") (list_data (name_data names) via) no_members (names_without names via) refl)
move_without names (Replay arc lock onto) = refl
move_without names (Raw arc key) =
    rw (names_without names key.path, list_without signature_data (λ s. refl) key.sigs) refl
move_without names (Claim arc) = refl
move_without names (Refund arc) = refl
move_without names (Transfer arc to units) = refl
move_without names (Wait arc height) = refl

actor_without : (names : List (List ℕ)) (role : Role) → has_float (actor_data names role) ≡ false
actor_without names Conforming = refl
actor_without names Manual = refl
actor_without names (Script moves) =
    member_without (codes "script") (list_data (move_data names) moves) no_members (list_without (move_data names) (move_without names) moves) refl
actor_without names (Strategy name) = refl

seed_without : (seed : Option (List ℕ)) → members_have_float (with_optional (codes "seed") digest_data seed no_members) ≡ false
seed_without None = refl
seed_without (Some seed) = refl

made_has_none : (job : Job) → has_float (made_header job) ≡ false
made_has_none job =
    let parties = list_without (made_party job)
    (λ p. rw (actor_without job.names (slice_index_or job.roles p Manual)) (seed_without (slice_index_or job.seeds p None)))
    (range_with_len 0 job.deal.graph.n) in
    rw (arcs_without job.names job.deal) (fields_without job.deal.mode job.names (parties_data made_party job) job.deal parties)

pub header_has_none : (job : Job) → has_float (header_data job) ≡ false
header_has_none job = go (is_make job.purpose)
  where
    go : (b : Bool) → has_float (cond b (made_header job) (shown_header job)) ≡ false
    go true = made_has_none job
    go false = shown_has_none job
