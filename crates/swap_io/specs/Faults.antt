-- Faults of one call as those of another.
use Rattle.swap_io.specs.declared.fault.LineFault.{LineFault}
use Rattle.swap_io.specs.declared.fault.LineFault.TheVariants as line
use Rattle.swap_io.specs.declared.fault.DrainFault.{DrainFault}
use Rattle.swap_io.specs.declared.fault.DrainFault.TheVariants.{ReadFault, TooLong}

-- the fault of a line, by that of a drain
abbrev pub drain_line_fault : DrainFault → LineFault
drain_line_fault ReadFault = line.ReadFault
drain_line_fault TooLong = line.TooLong
