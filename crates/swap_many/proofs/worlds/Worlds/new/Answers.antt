use Rattle.std.proofs.Common.{◌≡◌, ◌<◌, ℕ, List, [], Ok, false, length, map, sym, ap, ◌∙◌, subst}
use Rattle.std.specs.List.{range_with_len}
use Rattle.swap_run.specs.Laws.{IsReadyCast}
use Rattle.swap_world.specs.Value.{world_cast}
use Rattle.swap_many.specs.Opened.{overdrawn}
use Rattle.swap_many.specs.Opening.{setup_of_worlds, new_chain, new_many, none_swept, opened_or}
use Rattle.swap_many.specs.Ticking.{nth}
use Rattle.swap_many.specs.Value.{ManyState}
use Rattle.swap_many.specs.Inside.{AreWhole, standing}
use Rattle.swap_many.proofs.Begun.{was_opened}
use Rattle.swap_many.proofs.Starting.{new_whole}
use Rattle.swap_many.proofs.worlds.Worlds.new.Goals as goal

pub standing-requires : goal.standing-requires
standing-requires c = rw (c.deref-3.ensures.value, c.as_slice-2.ensures) c.requires.placed

pub invariant_of-result : goal.invariant_of-result
invariant_of-result c =
    let ws = c.args.worlds.items in
    let ps = c.args.places in
    let cs = c.args.chains.now in
    let m = setup_of_worlds ws ps cs in
    let all = map (new_chain m) (range_with_len 0 (length cs)) in
    let e : opened_or (overdrawn m) all ≡ Ok c.in-Ok.opened.items = rw (c.deref.ensures.value, c.as_slice.ensures) at c.in-Ok.ensures in
    let k = was_opened (overdrawn m) all c.in-Ok.opened.items e in
    let flags : c.in_ok-swept.swept.items ≡ map none_swept ws = rw c.deref-2.ensures.value at c.in_ok-swept.ensures.value in
    let casts : (s : ℕ) → s < length ws → IsReadyCast (world_cast (nth ws s)) = rw c.deref-2.ensures.value at c.in_ok-swept.ensures.ready in
    let is : (let w : ManyState = record {
      worlds = ws;
      places = ps;
      openings = c.build_told.result.items;
      chains = c.in-Ok.opened.items;
      swept = c.in_ok-swept.swept.items;
      stages = [];
      stopped = false;
    } in w) ≡ new_many cs ws ps = λ j. record {
      worlds = ws;
      places = ps;
      openings = c.build_told.ensures j;
      chains = k.1 j;
      swept = flags j;
      stages = [];
      stopped = false;
    } in
    let on : c.in_ok-on.on ≡ standing (length cs) ps = rw c.as_slice-2.ensures at c.in_ok-on.ensures in
    record {
      whole = subst AreWhole (sym is) (new_whole cs ws ps c.requires k.0 casts);
      on = on ∙ ap (λ (os : List (List ℕ)). standing (length os) ps) (sym c.build_told.ensures);
    }
