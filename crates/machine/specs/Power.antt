-- Document 01, "Ports", last paragraph: power-up and the vertical tick.
use Rattle.std.specs.Prelude.{true, false}
use Rattle.machine.specs.declared.Machine.{Machine}
use Rattle.machine.specs.Fields.{with_interrupt}

-- "At power-up: port 0A holds 00, 80 columns, 60 Hz, not interlaced, all else clear"
abbrev pub power_up : Machine
power_up =
    record {
      columns132 = false;
      hertz50 = false;
      interlace = false;
      latch = 0;
      blink = false;
      interrupt = false;
      reverse = false;
      watchdog = false;
      count = 0;
      reset = false;
      held = 0x00;
    }

-- "A vertical tick sets the vertical interrupt."
abbrev pub vertical_tick : Machine → Machine
vertical_tick m = with_interrupt m true
