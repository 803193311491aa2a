-- The names of a header that is written of a made job stand for the numbers of the job.
use Rattle.std.proofs.Common.{◌≡◌, inl, inr, ◌+◌, ◌<◌, ℕ, zero, suc, Bool, true, List, [], ◌∷◌, length, map, take, cond, Result, Ok, Err, refl, sym, ap, ◌∙◌}
use Rattle.std.proofs.Common.{arith, fold}
use Rattle.std.specs.Prelude.{All}
use Rattle.std.specs.Str.{bytes_eq}
use Rattle.std.specs.List.{list_any, range_with_len}
use Rattle.std.proofs.lemmas.List.{take_all, take_more}
use Rattle.std.proofs.lemmas.List.Elements.{All-get_or}
use Rattle.std.proofs.lemmas.List.Folds.{list_any_at}
use Rattle.std.proofs.lemmas.Str.{utf8_lossy-IsUtf8}
use Rattle.swap_base.specs.Fault.{steps}
use Rattle.swap_base.specs.Lists.{IsElement}
use Rattle.swap_digraph.specs.Graph.{arcs}
use Rattle.swap_digraph.specs.declared.deal.Mode.{Mode}
use Rattle.hashkey_path.proofs.Validity.{bytes_eq_self}
use Rattle.swap_job.specs.declared.job.Job.{Job}
use Rattle.swap_job.specs.declared.job.Role.{Role}
use Rattle.swap_job.specs.declared.job.Role.TheVariants.{Conforming, Manual, Script, Strategy}
use Rattle.swap_job.specs.declared.moves.Move.{Move}
use Rattle.swap_job.specs.declared.moves.Move.TheVariants.{Publish, Craft, Replay, Raw, Claim, Refund, Transfer, Wait}
use Rattle.offer_moves.specs.declared.moves.Sizes.{Sizes}
use Rattle.command_input.specs.declared.reason.Reason.{Reason}
use Rattle.command_input.specs.declared.reason.Reason.TheVariants.{Unknown}
use Rattle.offer_header.specs.Names.{actor_known, all_known, known_name, move_known, name_added, name_step, names_stated, numbered_header, strategy_known, with_name}
use Rattle.read_back.proofs.HeaderLimited.{all_in}
use Rattle.read_back.proofs.HeaderNamed.{all_arcs, all_leaders, ends_at, is_fresh, name_on, numbered_at}
use Rattle.read_back.proofs.Steps.{step}
use Rattle.read_back.proofs.MadeFields.{raw_actor, role_at, told_header, told_party}
use Rattle.read_back.proofs.MoveLimits.{IsLimited}
use Rattle.read_back.proofs.RawMoves.{party_label, raw_move}
use Rattle.read_back.proofs.ToldJobs.{sizes_at, IsTold, IsToldRole}

-- each step passes, so all do
all_pass : {A B : Type 0} (f : B → Result (Unit {0}) Reason) (g : A → B) (xs : List A) → ((x : A) → IsElement x xs → f (g x) ≡ Ok tt)
    → steps (λ u x. f x) tt (map g xs) ≡ Ok tt
unfolding steps
all_pass f g [] h = refl
all_pass f g (x ∷ xs) h =
    step (f (g x)) tt (λ u. steps (λ u x. f x) u (map g xs)) (h x (inl refl)) ∙ all_pass f g xs (λ y i. h y (inr i))

-- a name among names is known
is_known : (line : ℕ) (names : List (List ℕ)) (p : ℕ) → p < length names → known_name line names (party_label names p) ≡ Ok tt
unfolding known_name
is_known line names p lt =
    let there : list_any (bytes_eq (party_label names p)) names ≡ true =
    list_any_at (bytes_eq (party_label names p)) names p [] lt (bytes_eq_self (party_label names p)) in
    rw there refl

are_known : (line : ℕ) (names : List (List ℕ)) (ps : List ℕ) → All (λ p. p < length names) ps → all_known line names (map (party_label names) ps) ≡ Ok tt
unfolding all_known
are_known line names ps all = all_pass (known_name line names) (party_label names) ps (λ p i. is_known line names p (all_in (λ q. q < length names) ps p all i))

move_is_known : (line : ℕ) (names : List (List ℕ)) (s : Sizes) (mv : Move) → IsLimited s (length names) mv
    → move_known line names (raw_move names mv) ≡ Ok tt
move_is_known line names s (Publish arc start delta bound timelock amount locks) k = refl
move_is_known line names s (Craft arc lock via onto) k = are_known line names via k.below
move_is_known line names s (Replay arc lock onto) k = refl
move_is_known line names s (Raw arc key) k = are_known line names key.path k.1.below
move_is_known line names s (Claim arc) k = refl
move_is_known line names s (Refund arc) k = refl
move_is_known line names s (Transfer arc to units) k = is_known line names to k.1
move_is_known line names s (Wait arc height) k = refl

strategy_is_known : (has : List ℕ → Bool) (line : ℕ) (name : List ℕ) → has name ≡ true → strategy_known has line name ≡ Ok tt
strategy_is_known has line name h = ap (λ (b : Bool). cond b (Ok tt) (Err (Unknown line name))) h

actor_is_known : (has : List ℕ → Bool) (line : ℕ) (names : List (List ℕ)) (s : Sizes) (role : Role) → IsToldRole has s (length names) role
    → actor_known has line names (raw_actor names role) ≡ Ok tt
actor_is_known has line names s Conforming k = refl
actor_is_known has line names s Manual k = refl
actor_is_known has line names s (Script moves) k =
    all_pass (move_known line names) (raw_move names) moves
    (λ mv i. move_is_known line names s mv (all_in (IsLimited s (length names)) moves mv k.1 i))
actor_is_known has line names s (Strategy name) k =
    ap (strategy_known has line) (utf8_lossy-IsUtf8 name k.1) ∙ strategy_is_known has line name k.0

module _ (has : List ℕ → Bool) (job : Job) (k : IsTold has job) (line : ℕ) where
  -- ---- the names that are stated

  one_name : (p : ℕ) → p < length job.names → with_name (take p job.names) (told_party job p) ≡ take (p + 1) job.names
  one_name p lt = rw (is_fresh job k.shown line p lt) (sym (take_more job.names p [] lt))

  names_from : (m i : ℕ) → i + m ≡ length job.names → fold with_name (take i job.names) (map (told_party job) (range_with_len i m)) ≡ job.names
  names_from zero i e = take_all i job.names (omega arith)
  names_from (suc m) i e =
      ap (λ (l : List (List ℕ)). fold with_name l (map (told_party job) (range_with_len (i + 1) m))) (one_name i (omega arith))
      ∙ names_from m (i + 1) (omega arith)

  stated_are : names_stated (map (told_party job) (range_with_len 0 job.deal.graph.n)) ≡ job.names
  stated_are = let count : length job.names ≡ job.deal.graph.n = k.shown.parties in names_from job.deal.graph.n 0 (omega (arith, count))

  -- ---- names, one after another

  name_is : (p : ℕ) → p < length job.names → name_added line (take p job.names) (told_party job p) ≡ Ok (take (p + 1) job.names)
  unfolding name_added
  name_is p lt = name_on job k.shown line p lt

  role_is : (p : ℕ) → p < length job.names → IsToldRole has (sizes_at job) (length job.names) (role_at job p)
  role_is p lt =
      let count : length job.names ≡ job.deal.graph.n = k.shown.parties in
      let roles : length job.roles ≡ job.deal.graph.n = k.roles in
      All-get_or (IsToldRole has (sizes_at job) (length job.names)) job.roles p Manual (omega (arith, count, roles, lt)) k.said

  party_on : (p : ℕ) → p < length job.names → name_step has line job.names (take p job.names) (told_party job p) ≡ Ok (take (p + 1) job.names)
  unfolding name_step
  party_on p lt =
      step _ (take (p + 1) job.names) _ (name_is p lt)
      ∙ step _ tt _ (actor_is_known has line job.names (sizes_at job) (role_at job p) (role_is p lt))

  parties_on : (m i : ℕ) → i + m ≡ length job.names
      → steps (name_step has line job.names) (take i job.names) (map (told_party job) (range_with_len i m)) ≡ Ok job.names
  unfolding steps
  parties_on zero i e = ap (λ (l : List (List ℕ)). Ok l) (take_all i job.names (omega arith))
  parties_on (suc m) i e =
      step (name_step has line job.names (take i job.names) (told_party job i)) (take (i + 1) job.names)
      (λ t. steps (name_step has line job.names) t (map (told_party job) (range_with_len (i + 1) m))) (party_on i (omega arith))
      ∙ parties_on m (i + 1) (omega arith)

  all_names : steps (name_step has line (names_stated (map (told_party job) (range_with_len 0 job.deal.graph.n)))) []
      (map (told_party job) (range_with_len 0 job.deal.graph.n)) ≡ Ok job.names
  all_names =
      let count : length job.names ≡ job.deal.graph.n = k.shown.parties in
      ap (λ (l : List (List ℕ)). steps (name_step has line l) [] (map (told_party job) (range_with_len 0 job.deal.graph.n))) stated_are
      ∙ parties_on job.deal.graph.n 0 (omega (arith, count))

  pub numbered_back : (mode : Mode) → numbered_header has line (told_header mode job) ≡ Ok (numbered_at job)
  unfolding numbered_header
  numbered_back mode =
      step _ job.names _ all_names
      ∙ step _ (map (ends_at job) (arcs job.deal.graph)) _ (all_arcs job k.shown line mode)
      ∙ step _ job.deal.leaders _ (all_leaders job k.shown line)
