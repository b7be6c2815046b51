-- The folder of a run that has none.
use Rattle.std.specs.Prelude.{None}
use Rattle.cas_outside.specs.declared.no_folder.NoFolder.{NoFolder}
use Rattle.cas_outside.specs.Folder.{FolderView}

abbrev pub no_folder_view : NoFolder → FolderView
no_folder_view f = record { files = None; asked = None; entered = f.entered; locked = f.locked; faults = f.faults; held = 0; changes = f.changes }
