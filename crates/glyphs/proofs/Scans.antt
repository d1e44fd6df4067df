-- The formula gives the scan addresses that 01 lists.
use Prim.Native.Nat.{zero, suc}
use mathlib.Core.Path.{refl}
use native.Mathlib.Omega.{arith}
use Rattle.glyphs.specs.Scans.{scan_addresses, AsListed}

pub as_listed : AsListed
unfolding scan_addresses
as_listed zero from to = absurd (omega arith)
as_listed (suc zero) from to = refl
as_listed (suc (suc zero)) from to = refl
as_listed (suc (suc (suc zero))) from to = refl
as_listed (suc (suc (suc (suc zero)))) from to = refl
as_listed (suc (suc (suc (suc (suc zero))))) from to = refl
as_listed (suc (suc (suc (suc (suc (suc zero)))))) from to = refl
as_listed (suc (suc (suc (suc (suc (suc (suc zero))))))) from to = refl
as_listed (suc (suc (suc (suc (suc (suc (suc (suc zero)))))))) from to = refl
as_listed (suc (suc (suc (suc (suc (suc (suc (suc (suc zero))))))))) from to = refl
as_listed (suc (suc (suc (suc (suc (suc (suc (suc (suc (suc zero)))))))))) from to = refl
as_listed (suc (suc (suc (suc (suc (suc (suc (suc (suc (suc (suc scan))))))))))) from to = absurd (omega arith)
