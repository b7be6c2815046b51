-- How a port's error is answered.
use Rattle.cas_port.specs.declared.block.PortError.{PortError}
use Rattle.cas_port.specs.declared.block.PortError.TheVariants as port
use Rattle.fault_in.specs.declared.error.FaultInError.{FaultInError}
use Rattle.fault_in.specs.declared.error.FaultInError.TheVariants.{Full, Memory}

abbrev pub fault_in_error : PortError → FaultInError
fault_in_error (port.Full full) = Full full
fault_in_error port.Memory = Memory
