-- The fit of an opening, if there was one.
use Rattle.std.specs.Prelude.{None, Some, Option}
use Rattle.scan.specs.declared.fit.Fit.{Fit}
use Rattle.scan.specs.Fits.{Fitting}
use Rattle.scan.specs.Views.{fitting_of}

-- what stands before any opening: no cycle, channel or outlet
abbrev pub unopened : Fitting
unopened = record { frame = record { warmup = 0; shifts = 0 }; channels = 0; outlets = 0 }

-- the fitting of the last opening, or that before any
abbrev pub fitting_at : Option Fit → Fitting
fitting_at None = unopened
fitting_at (Some f) = fitting_of f
