use Rattle.fast_recovery.specs.CatalogueRead.{CatalogueRead}
use Rattle.fast_recovery.proofs.catalogue.Catalogue.read.Given as goal

-- the rows that are left are still to be read
abbrev pub invariant-loop-slot : goal.invariant-loop-slot
invariant-loop-slot l = CatalogueRead l.owners l.slots l.slot-iterator l.catalogue
