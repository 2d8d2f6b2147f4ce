-- The words of laws beside the contracts.
-- a host's list of calls, and the certificate's
pub mod Host
