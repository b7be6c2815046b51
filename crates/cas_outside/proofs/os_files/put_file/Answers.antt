use Rattle.std.proofs.Common.{rules}
use Rattle.cas_outside.proofs.OsFiles.{paths-apart}
use Rattle.cas_outside.proofs.os_files.put_file.Goals as goal

pub rename-renamed-requires-clause-apart : goal.rename-renamed-requires-clause-apart
rename-renamed-requires-clause-apart g c = λ same. paths-apart c.args.dir.now c.args.name.now c.requires.first (search rules)
