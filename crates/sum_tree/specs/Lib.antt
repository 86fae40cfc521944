pub mod SumData
pub mod SumView
pub mod SumFalls
pub mod SumFunctionData
pub mod SpecifiedData
pub mod SumModuleData
