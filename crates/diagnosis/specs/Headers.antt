-- Why a header is that of no executable for MIPS.
use Rattle.std.specs.Prelude.{◌==◌, not, if◌then◌else◌}
use Rattle.elf32.specs.declared.header.FileHeader.{FileHeader}
use Rattle.diagnosis.specs.declared.headers.Doubt.{Doubt}
use Rattle.diagnosis.specs.declared.headers.Doubt.TheVariants as doubt

-- by its type: ET_REL, ET_DYN, ET_CORE, another than ET_EXEC
abbrev pub kind_doubt : FileHeader → Doubt
kind_doubt h =
    if h.kind == 1 then doubt.Object
    else (if h.kind == 3 then doubt.Shared
    else (if h.kind == 4 then doubt.Core
    else (if not (h.kind == 2) then doubt.Kind
    else (if not (h.version == 1) then doubt.Version
    else doubt.Size))))

-- the processor comes first
abbrev pub doubt_of : FileHeader → Doubt
doubt_of h = if not (h.machine == 8) then doubt.Machine else kind_doubt h
