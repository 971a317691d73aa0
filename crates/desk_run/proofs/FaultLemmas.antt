-- What a store's fault is not.
use Rattle.std.proofs.Common.{◌≡◌, Result, Err}
use Rattle.desk_store.specs.declared.fault.StoreFault.{StoreFault}
use Rattle.desk_store.specs.declared.fault.StoreFault.TheVariants as store
use Rattle.desk_run.specs.declared.fault.DeskFault.{DeskFault}
use Rattle.desk_run.specs.declared.fault.DeskFault.TheVariants.{Ceiling}
use Rattle.desk_run.specs.Calls.{fault_of}

pub never_ceiling : {T : Type 0} (fault : StoreFault)
    → ◌≡◌ {A = Result T DeskFault} (Err (fault_of fault)) (Err Ceiling) → ⊥
never_ceiling store.OutOfMemory e = cc
never_ceiling store.Store e = cc
