use Rattle.std.proofs.Common.{◌≡◌, List, [], Ok, map, sym, ap₂, subst}
use Rattle.swap_many.specs.Many.{many_start}
use Rattle.swap_many.specs.Laws.{IsReadySetup}
use Rattle.swap_many.specs.Sound.{Keeps}
use Rattle.swap_many.specs.Opened.{overdrawn}
use Rattle.swap_many.specs.Opening.{setup_of_worlds, new_many, opened_swaps}
use Rattle.swap_many.specs.Stages.{Stage, stretch_stages, staged_run}
use Rattle.swap_many.specs.Value.{ManyState, made_setup, many_kept}
use Rattle.swap_many.proofs.Begun.{was_opened}
use Rattle.swap_many.proofs.Starting.{start_keeps}
use Rattle.swap_many.proofs.Runs.{whole_staged}
use Rattle.swap_many.proofs.many_world.ManyWorld.new.Goals as goal

pub invariant_of-result : goal.invariant_of-result
invariant_of-result c =
    let ws = c.args.worlds.items in
    let ps = c.args.places in
    let cs = c.args.chains.now in
    let made = c.in-Ok.worlds in
    let e : opened_swaps cs ws ps ≡ Ok made = c.in-Ok.ensures in
    let k = was_opened (overdrawn (setup_of_worlds ws ps cs)) (new_many cs ws ps) made e in
    let ys : List Stage = stretch_stages (map (λ p. p.items) c.new-in-Ok.result.items) c.new-in-Ok-2.result.items in
    let none : ys ≡ [] = ap₂ (λ xs es. stretch_stages (map (λ p. p.items) xs) es) c.new-in-Ok.ensures c.new-in-Ok-2.ensures in
    record {
      whole = whole_staged made ys c.keep.ensures;
      runs =
          λ on g more. subst (λ (xs : List Stage). Keeps (made_setup made g) (staged_run (made_setup made g) xs) (many_kept made)) (sym none)
          (subst (λ (v : ManyState). Keeps (made_setup v g) (many_start (made_setup v g)) (many_kept v)) (sym k.1)
          (start_keeps cs ws ps c.requires g (subst (λ (v : ManyState). IsReadySetup (made_setup v g)) k.1 (c.keep.ensures.ready g))));
    }
