-- The header of a made job can be written.
use Rattle.std.proofs.Common.{◌≡◌, ◌==◌, ◌&&◌, ◌||◌, ℕ, zero, suc, ◌<◌, ◌≤◌, Bool, true, false, nat_lt, nat_le, List, [], length, get_or, All, slice_index}
use Rattle.std.proofs.Common.{Some, codes, decimal, refl, sym, subst, arith, ltb-true, eqb-true}
use Rattle.std.specs.List.{list_all}
use Rattle.swap_base.proofs.Lists.{and_parts, in_place, list_all-in}
use Rattle.std.specs.Str.{IsAscii, IsUtf8}
use Rattle.std.proofs.lemmas.Fmt.{IsAscii-decimal}
use Rattle.std.proofs.lemmas.List.{length-replicate}
use Rattle.std.proofs.lemmas.List.Elements.{All-from_get_or, All-replicate}
use Rattle.std.proofs.lemmas.List.FromFn.{length-map-range_with_len, get_or-map-range_with_len}
use Rattle.std.proofs.lemmas.Str.{IsUtf8-append, IsUtf8-from_ascii}
use Rattle.swap_digraph.specs.declared.deal.Deal.{Deal}
use Rattle.swap_digraph.specs.Graph.{HasEnds}
use Rattle.swap_digraph.specs.Deal.{counterparty, party, path_limit, IsWellSized}
use Rattle.swap_rules.specs.Accepted.{IsAccepted}
use Rattle.swap_rules.proofs.Accepted.{accepted_is_well_sized}
use Rattle.swap_job.specs.declared.job.Job.{Job}
use Rattle.swap_job.specs.declared.job.Role.{Role}
use Rattle.swap_job.specs.declared.job.Role.TheVariants.{Conforming, Manual, Script, Strategy}
use Rattle.swap_job.specs.declared.moves.Move.{Move}
use Rattle.swap_job.specs.declared.moves.Move.TheVariants.{Publish, Craft, Replay, Raw, Claim, Refund, Transfer, Wait}
use Rattle.swap_job.specs.Crafted.{Seeds}
use Rattle.swap_job.specs.Fitting.{IsFitting, IsPartyMove}
use Rattle.swap_job.specs.Roles.{role_script}
use Rattle.offer_header.specs.Names.{AreNames}
use Rattle.swap_offer.specs.Job.{IsWholeJob}
use Rattle.swap_offer.specs.Wallets.{HaveScripts}
use Rattle.swap_gen.specs.Made.{made, made_deal}
use Rattle.swap_gen.specs.Owned.{OwnsKeys}
use Rattle.swap_gen.specs.Drawn.{generated, drawn_party_label, plain_deal, plain_job, drawn_seed}
use Rattle.offer_text.specs.Words.{AreTexts}
use Rattle.offer_text.specs.Moves.{AreBelow, BoundedNames}
use Rattle.offer_text.specs.HeaderLine.{AreSayable, IsSayable, IsWritable}
use Rattle.offer_text.proofs.LowTexts.{low_are_texts, low_is_ascii}
use Rattle.made_jobs.specs.Making.{IsMade}

pub are_texts : (names : List (List ℕ)) → AreNames names → AreTexts names
are_texts names k = low_are_texts names (λ p lt. (k.name p lt).ascii)

-- The moves of a script that fit its deal name parties that are there.

both_below : (x n f t : ℕ) (b : Bool) → f < n → t < n → ((x == f) || (x == t)) && b ≡ true → x < n
both_below x n f t b lf lt e = go (x == f) (x == t) refl refl (and_parts ((x == f) || (x == t)) b e).0
  where
    go : (c d : Bool) → (x == f) ≡ c → (x == t) ≡ d → (c || d) ≡ true → x < n
    go true d ec ed k = subst (λ y. y < n) (sym (eqb-true x f ec)) lf
    go false true ec ed k = subst (λ y. y < n) (sym (eqb-true x t ed)) lt
    go false false ec ed k = absurd (cc k)

all_below : (n : ℕ) (ps : List ℕ) → list_all (λ v. nat_lt v n) ps ≡ true → AreBelow n ps
all_below n ps e i d lt = ltb-true (get_or ps i d) n (list_all-in (λ v. nat_lt v n) ps (get_or ps i d) e (in_place ps i d lt))

names_below : (d : Deal) (seeds : Seeds) → HasEnds d.graph → (mv : Move) → IsFitting d seeds mv → BoundedNames d.graph.n mv
names_below d seeds ends (Publish a start delta bound timelock amount locks) k = tt
names_below d seeds ends (Craft a lock via onto) k = all_below d.graph.n via k.names.1.known
names_below d seeds ends (Replay a lock onto) k = tt
names_below d seeds ends (Raw a key) k =
    all_below d.graph.n key.path
    (and_parts (nat_lt key.lock (length d.leaders) && nat_le (length key.path) (path_limit d) && nat_le (length key.sigs) (path_limit d))
    (list_all (λ v. nat_lt v d.graph.n) key.path) k.names).1
names_below d seeds ends (Claim a) k = tt
names_below d seeds ends (Refund a) k = tt
names_below d seeds ends (Transfer a to units) k =
    both_below to d.graph.n (party d a) (counterparty d a) (nat_le units 1000000000000) (ends.from a k.arc) (ends.to a k.arc) k.names
names_below d seeds ends (Wait a height) k = tt

said : (d : Deal) (seeds : Seeds) (p : ℕ) → HasEnds d.graph → (role : Role) → All (IsPartyMove d seeds p) (role_script role) → IsSayable d.graph.n role
said d seeds p ends Conforming moves = tt
said d seeds p ends Manual moves = tt
said d seeds p ends (Script ms) moves = λ i mv lt. names_below d seeds ends (get_or ms i mv) (moves i mv lt).fits
said d seeds p ends (Strategy name) moves = tt

sayable : (job : Job) → IsWholeJob job → HaveScripts job → AreSayable job
sayable job whole scripts =
    subst (λ n. All (IsSayable n) job.roles) (sym whole.names)
    (All-from_get_or (IsSayable job.deal.graph.n) job.roles Manual (λ p lt.
    said job.deal job.seeds p whole.sized.ends (get_or job.roles p Manual) (scripts p (subst (λ n. p < n) whole.roles lt))))

pub is_writable : (job : Job) → IsWellSized job.deal → length job.names ≡ job.deal.graph.n → AreTexts job.names
    → length job.conforming ≡ job.deal.graph.n → length job.roles ≡ job.deal.graph.n → length job.seeds ≡ job.deal.graph.n → IsWritable job
is_writable job sized names texts conforming roles seeds = record {
  sized = sized;
  names = names;
  texts = texts;
  conforming = conforming;
  roles = roles;
  seeds = seeds;
}

pub made_is_writable : (job m : Job) → m ≡ made job → IsAccepted m.deal → IsWholeJob job → AreNames job.names → IsWritable m
unfolding made_deal
made_is_writable job m e k whole names =
    subst IsWritable (sym e)
    (is_writable (made job) (accepted_is_well_sized (made job).deal (subst (λ (x : Job). IsAccepted x.deal) e k)) whole.names (are_texts job.names names)
    whole.conforming whole.roles whole.seeds)

pub made_is_sayable : (job m : Job) → m ≡ made job → IsWholeJob job → HaveScripts job → AreSayable m
made_is_sayable job m e whole scripts = subst AreSayable (sym e) (sayable job whole scripts)

pub is_made : (job m : Job) → m ≡ made job → IsAccepted m.deal → ((p : ℕ) → p < m.deal.graph.n → OwnsKeys m p) → IsMade job
is_made job m e k own = record {
  accepted = subst (λ (x : Job). IsAccepted x.deal) e k;
  owned = subst (λ (x : Job). (p : ℕ) → p < x.deal.graph.n → OwnsKeys x p) e own;
}

-- The names of a generated job are text.

name_is_text : (i : ℕ) → i < 256 → IsUtf8 (drawn_party_label i)
name_is_text i lt =
    let first : IsUtf8 (codes "p") = IsUtf8-from_ascii (codes "p") (low_is_ascii (codes "p") (λ k l. p_is k l)) in
    IsUtf8-append (codes "p") (decimal i) first (IsUtf8-from_ascii (decimal i) (IsAscii-decimal i (omega arith)))
  where
    p_is : (k : ℕ) → k < 1 → slice_index (codes "p") k < 128
    p_is zero l = omega arith
    p_is (suc k) l = absurd (omega arith)

pub generated_is_writable : (seed n : ℕ) → n ≤ 24 → IsAccepted (generated seed n).deal → IsWritable (generated seed n)
unfolding plain_job plain_deal made_deal
generated_is_writable seed n few k = record {
  sized = accepted_is_well_sized (generated seed n).deal k;
  names = length-map-range_with_len drawn_party_label 0 n;
  texts = λ p d lt.
      let low : p < n = omega (arith, length-map-range_with_len drawn_party_label 0 n, lt) in
      subst IsUtf8 (sym (get_or-map-range_with_len drawn_party_label 0 n p p d low (omega arith))) (name_is_text p (omega (arith, low, few)));
  conforming = length-replicate n true;
  roles = length-replicate n Conforming;
  seeds = length-map-range_with_len (λ i. Some (drawn_seed seed i)) 0 n;
}

generated_is_sayable : (seed n : ℕ) → AreSayable (generated seed n)
unfolding plain_job
generated_is_sayable seed n = All-replicate (IsSayable (length (generated seed n).names)) n Conforming tt

pub job_is_writable : (j : Job) (seed n : ℕ) → j ≡ generated seed n → n ≤ 24 → IsAccepted j.deal → IsWritable j
job_is_writable j seed n e few k =
    subst IsWritable (sym e) (generated_is_writable seed n few (subst (λ (x : Job). IsAccepted x.deal) e k))

pub job_is_sayable : (j : Job) (seed n : ℕ) → j ≡ generated seed n → AreSayable j
job_is_sayable j seed n e = subst AreSayable (sym e) (generated_is_sayable seed n)
