-- The devices: what each has and allows, one row for each (01, "The case file"), and the rules that go by it.
use Rattle.std.specs.Prelude.{ℕ, ◌/◌, ◌%◌, Bool, true, false, cond, not, ◌&&◌, ◌||◌, eqb, leb, is_some}
use Rattle.std.specs.Prelude.{Option, Some, None, Result, Ok, Err}
use Rattle.kind.specs.Kinds.{family_of}
use Rattle.kind.specs.Masks.{is_within, meets}
use Rattle.kind.specs.declared.Device.{Device}
use Rattle.kind.specs.declared.Device.TheVariants.{El6900, El6910}
use Rattle.kind.specs.declared.UnknownDevice.{UnknownDevice}
use Rattle.kind.specs.declared.Features.{Features}
use Rattle.kind.specs.declared.Family.{Family}
use Rattle.kind.specs.declared.Family.TheVariants.{Decouple, Twohand, Arithmetic}

-- ---- a group's byte of a record

-- 01, "The case file", T: bit 0 Run, 1 ErrAck, 2 ComErr, 3 ModuleFault
abbrev pub is_run : ℕ → Bool
is_run v = eqb (v % 2) 1

abbrev pub is_err_ack : ℕ → Bool
is_err_ack v = eqb (v / 2 % 2) 1

abbrev pub is_com_err : ℕ → Bool
is_com_err v = eqb (v / 4 % 2) 1

abbrev pub is_module_fault : ℕ → Bool
is_module_fault v = eqb (v / 8 % 2) 1

-- ---- the devices

-- 01, "The case file": the device byte, 0 = EL6900, 1 = EL6910
abbrev pub EL6900 : ℕ
EL6900 = 0

abbrev pub EL6910 : ℕ
EL6910 = 1

-- 01, "The case file": arithmetic blocks are not on EL6900; Run may be linked; bit 3 must be 0, so bits 0, 1 and 2 are
-- allowed, and ComErr, bit 2, makes pending ("One cycle")
abbrev pub el6900 : Features
el6900 = record {
  twohand = true;
  arithmetic = false;
  tied = false;
  controls = 7;
  pending = 4;
}

-- 01, "The case file": on EL6910 Run must be linked; bits 0 to 3; ComErr and ModuleFault, bits 2 and 3, make pending
abbrev pub el6910 : Features
el6910 = record {
  twohand = true;
  arithmetic = true;
  tied = true;
  controls = 15;
  pending = 12;
}

-- 01, "The case file": the device of G's byte
abbrev pub device_from : ℕ → Result Device UnknownDevice
device_from d = cond (eqb d EL6900) (Ok El6900) (cond (eqb d EL6910) (Ok El6910) (Err (record { 0 = d })))

abbrev pub features_of : Device → Features
features_of El6900 = el6900
features_of El6910 = el6910

abbrev pub features_from : Result Device UnknownDevice → Option Features
features_from (Ok d) = Some (features_of d)
features_from (Err e) = None

-- what the device of G's byte has and allows; a byte that is no device's has no row
unfoldable pub device_of : ℕ → Option Features
device_of d = features_from (device_from d)

abbrev pub is_device : ℕ → Bool
is_device d = is_some (device_of d)

-- 01, "The case file": which device has which blocks; every device has DECOUPLE. What is no device has none.
abbrev pub has : Option Features → Option Family → Bool
has (Some v) (Some Decouple) = true
has (Some v) (Some Twohand) = v.twohand
has (Some v) (Some Arithmetic) = v.arithmetic
has (Some v) None = false
has None f = false

abbrev pub available : ℕ → ℕ → Bool
available d k = has (device_of d) (family_of k)

-- general: what is no device asks that Run is linked, and allows no bit
abbrev pub is_tied : Option Features → Bool
is_tied (Some v) = v.tied
is_tied None = true

abbrev pub controls_of : Option Features → ℕ
controls_of (Some v) = v.controls
controls_of None = 0

abbrev pub pending_of : Option Features → ℕ
pending_of (Some v) = v.pending
pending_of None = 0

-- ---- the rules that go by the device

-- 01, "The case file", G: one byte per group, 1 if Run is linked, 0 if not; on EL6910 it must be 1
abbrev pub group_rule : ℕ → ℕ → Bool
group_rule d run = leb run 1 && (not (is_tied (device_of d)) || eqb run 1)

-- 01, "The case file", T: no other bits; where Run is not linked, bit 0 must be 0
abbrev pub control_rule : ℕ → ℕ → ℕ → Bool
control_rule d linked v = is_within v (controls_of (device_of d)) && (eqb linked 1 || not (is_run v))

-- 01, "One cycle": pending means ComErr, ModuleFault, or some block of the group in ERROR: the part of the group's byte
abbrev pub is_pending : ℕ → ℕ → Bool
is_pending d v = meets v (pending_of (device_of d))
