-- What findings say in units.
use Rattle.std.proofs.Common.{refl, eq-eqb}
use Rattle.swap_rules.specs.Walking.{endangers}
use Rattle.swap_rules.proofs.Found.{conducted_by, late_publish_is_safe, late_unlock_has_refunds}
use Rattle.swap_units.specs.Units.{UnendangeredIsPaid, UnstrandedIsWhole}
use Rattle.swap_units.proofs.Units.{above_water_is_paid, safe_is_whole, whole_or_paid}

pub unendangered_is_paid : UnendangeredIsPaid
unendangered_is_paid d conforming b v k legal below c safe unnamed =
    above_water_is_paid d b v k legal (conducted_by d conforming b v legal below c (endangers d v) safe (λ a e. eq-eqb v v refl))
    (late_publish_is_safe d conforming b v k legal below c safe unnamed)

pub unstranded_is_whole : UnstrandedIsWhole
unstranded_is_whole d conforming b v k legal below c safe back unnamed =
    let conducted = conducted_by d conforming b v legal below c (endangers d v) safe (λ a e. eq-eqb v v refl) in
    let above = late_publish_is_safe d conforming b v k legal below c safe unnamed in
    let x =
    safe_is_whole d b v k legal conducted (record {
      safe = λ unforged. above;
      refunds = late_unlock_has_refunds d conforming b v k legal below c back;
    }) in
    (x, whole_or_paid d b v x.refunds (above_water_is_paid d b v k legal conducted above))
