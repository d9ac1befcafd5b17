-- What the values of this crate stand for.
use Rattle.scan.specs.declared.fit.Fit.{Fit}
use Rattle.scan.specs.declared.loading.Loading.{Loading}
use Rattle.scan.specs.Fits.{Fitting}
use Rattle.scan.specs.Runs.{Run}

-- a frame that was checked, beside the channels and outlets
abbrev pub fitting_of : Fit → Fitting
fitting_of f = record { frame = f.frame; channels = f.channels; outlets = f.outlets }

-- a run that loads: what it was started with, and the cycles done
abbrev pub run_of : Loading → Run
run_of l = record { fitting = fitting_of l.fit; done = l.done }
