-- What a frame is once it was checked against a machine.
use Rattle.std.specs.Prelude.{ℕ, Bool, ◌&&◌, ◌==◌}
use Rattle.machine.specs.Linear.{Linear}
use Rattle.scan.specs.declared.frame.Frame.{Frame}

-- a frame beside the channels and outlets of a machine that it was checked against
pub record Fitting : Type 0 where
  pub frame : Frame
  pub channels : ℕ
  pub outlets : ℕ

-- the fitting of a frame and a machine
abbrev pub fitting : Linear → Frame → Fitting
fitting m f = record { frame = f; channels = m.channels; outlets = m.outlets }

-- a machine has the channels and outlets of a fitting
abbrev pub suited : Linear → Fitting → Bool
suited m f = m.channels == f.channels && m.outlets == f.outlets
