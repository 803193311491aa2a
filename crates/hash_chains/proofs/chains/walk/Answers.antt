use Rattle.std.proofs.Common.{◌≡◌, ℕ, ◌+◌, ◌<◌, [], get_or, ◌∙◌, arith}
use Rattle.std.proofs.Math.ListN.{length-set}
use Rattle.sha2.specs.Sha256.{digest_bytes}
use Rattle.hash_chains.specs.Chains.{chain_value}
use Rattle.hash_chains.specs.Fours.{no_row}
use Rattle.hash_chains.specs.Lanes.{lane}
use Rattle.hash_chains.specs.declared.chains.Row.{Row}
use Rattle.hash_chains.proofs.Lanes.{no_steps, words_more}
use Rattle.hash_chains.proofs.Written.{each_written}
use Rattle.hash_chains.proofs.chains.walk.Goals as goal

pub steps-init : goal.steps-init
steps-init c = record {
  long = length-set _ _ _ ∙ c.told-rows;
  here = λ i lt. no_steps _;
  each = each_written (λ (k : ℕ) (row : Row). (i : ℕ) → i < 4 → get_or row.values i [] ≡ chain_value k (digest_bytes (lane c.args.start i) 8))
      c.args.rows.now 0 _ no_row (omega (arith, c.told-rows)) (λ k below. absurd (omega (arith, below))) (λ i lt. c.four_values.ensures i lt ∙ no_steps _);
}

pub steps-preserved : goal.steps-preserved
steps-preserved c =
    let n : ℕ = c.steps.n in
    let here : (i : ℕ) → i < 4 → digest_bytes (lane c.chain_step-next.result i) 8 ≡ chain_value (n + 1) (digest_bytes (lane c.args.start i) 8) =
    λ i lt. words_more (lane c.steps.reached i) _ _ n (c.chain_step-next.ensures i lt) (c.steps.invariant.here i lt) in
    record {
      long = length-set _ _ _ ∙ c.steps.invariant.long;
      here = here;
      each = each_written (λ (k : ℕ) (row : Row). (i : ℕ) → i < 4 → get_or row.values i [] ≡ chain_value k (digest_bytes (lane c.args.start i) 8))
          c.steps.rows (n + 1) _ no_row (omega arith) c.steps.invariant.each (λ i lt. c.four_values-in-steps.ensures i lt ∙ here i lt);
    }
