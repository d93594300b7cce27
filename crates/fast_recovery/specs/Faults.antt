-- A fault of the map, as opening answers it.
use Rattle.chunk_map.specs.declared.fault.MapFault.{MapFault}
use Rattle.chunk_map.specs.declared.fault.MapFault.TheVariants as map
use Rattle.fast_recovery.specs.declared.fault.OpenFault.{OpenFault}
use Rattle.fast_recovery.specs.declared.fault.OpenFault.TheVariants.{Disk, NotFormatted, Damaged}

abbrev pub fault_of : MapFault → OpenFault
fault_of map.NotFormatted = NotFormatted
fault_of (map.Damaged place) = Damaged place
fault_of map.Disk = Disk
