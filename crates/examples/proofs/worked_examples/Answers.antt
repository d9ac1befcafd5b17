use Rattle.std.proofs.Common.{refl}
use Rattle.examples.proofs.worked_examples.Goals as goal

pub returns : goal.returns
returns c = record {
  galois_of_three = refl;
  four_cell_ring = refl;
  ring_under_shifter = refl;
  shifter_past_the_outlets = refl;
  ring_under_delay = refl;
  two_into_one_cell = refl;
  sizes = refl;
  taps = refl;
  links = refl;
  first_fault = refl;
  sixteen_links = refl;
  seventeen_links = refl;
  inlets = refl;
  channels = refl;
  outlets = refl;
  empty_set = refl;
  load_of_four = refl;
  load_under_shifter = refl;
  load_under_shifter_of_another = refl;
  load_under_delay = refl;
  load_under_delay_of_another = refl;
  load_without_warm_up = refl;
  two_channels = refl;
  loads_a_bit = refl;
  dictionary = refl;
  warm_ups = refl;
  shift_cycles = refl;
  spans = refl;
  rooms = refl;
  patterns = refl;
  replayed = refl;
  pair = refl;
  unloads = refl;
}
