-- Registers with no device.
use Rattle.std.specs.Prelude.{◌≡◌}
use Rattle.desk_register.specs.View.{Device, View}

-- there is nothing that could fail or lie, or be shut
abbrev pub no_device : Device
no_device = record { failures = 0; is_honest = Unit {0}; is_sure = Unit {0} }

-- there is nothing under a register that could fail or lie
pub record HasNoDevice (view : View) : Type 0 where
  pub honest : view.is_honest
  pub sure : view.is_sure
  pub device_honest : view.device.is_honest
  pub device_sure : view.device.is_sure
  pub failures : view.device.failures ≡ 0
